-- The glob of what lies below a folder is read as one alternative: the names as they are, any components, and one more.
use Rattle.std.proofs.Common.{◌≡◌, ◌==◌, ◌+◌, ◌&&◌, ◌||◌, ◌⊎◌, inl, inr, ℕ, Bool, true, false, cond, List, [], ◌∷◌, ◌++◌, map, refl, sym, ◌∙◌, ap, append_assoc, Option, Some, None}
use Rattle.std.specs.List.{AllByRecursion, list_any, filter_map}
use Rattle.std.proofs.lemmas.Bool.{or_parts}
use Rattle.std.proofs.lemmas.List.{append-nil, map-append}
use Rattle.rel_path.specs.Paths.{Path, is_slash as is_slash_byte}
use Rattle.glob_syntax.specs.declared.error.GlobErr.{GlobErr}
use Rattle.glob_syntax.specs.declared.mark.Mark.{Mark}
use Rattle.glob_syntax.specs.declared.atom.Atom.{Atom}
use Rattle.glob_syntax.specs.declared.atom.Atom.TheVariants as atom
use Rattle.glob_syntax.specs.declared.part.Part.{Part}
use Rattle.glob_syntax.specs.declared.part.Part.TheVariants.{Span, Named}
use Rattle.glob_syntax.specs.Characters.{asterisk, period, slash}
use Rattle.glob_syntax.specs.Marks.{plain_mark, is_slash}
use Rattle.glob_syntax.specs.Tokens.{sign_of, token_of}
use Rattle.glob_syntax.specs.Braces.{has_close, parts_from, sign_fault, brace_fault}
use Rattle.glob_syntax.specs.Pieces.{step, pieces_of, alternatives_of}
use Rattle.glob_syntax.specs.Climbs.{components_of, climb_at, climb_in}
use Rattle.glob_syntax.specs.Parts.{name_from, part_of}
use Rattle.glob_syntax.specs.Faults.{pieces_in, first_fault}
use Rattle.glob_syntax.specs.Reading.{fault_at, glob_from}
use Rattle.glob_syntax.proofs.Pieces.{nothing-each_then}
use Rattle.folder_globs.specs.Exclusions.{below_folder}
use Rattle.folder_globs.proofs.Names.{AreNameChars}
use Rattle.folder_globs.proofs.Tokens.{past, past_name, name_marks, folder_marks, tokens_below}

-- ---- characters without a meaning for braces
-- a slash, quoted or not, another quoted character, or a star
abbrev IsSimple : Mark → Type 0
IsSimple m = (is_slash m ≡ true) ⊎ ((is_slash m ≡ false) × (m.quoted ≡ true)) ⊎ ((m.quoted ≡ false) × (m.character ≡ asterisk))

simple_fault : (m : Mark) (at : ℕ) (inside : Bool) (before : ℕ) (closed : Bool) (parts : ℕ) (later : Bool → ℕ → Option GlobErr) → IsSimple m → sign_fault (sign_of m) at inside before closed parts later ≡ later inside before
simple_fault m at inside before closed parts later (inl e) = rw e refl
simple_fault m at inside before closed parts later (inr (inl e)) = rw (e.0, e.1) refl
simple_fault m at inside before closed parts later (inr (inr e)) = rw (e.0, e.1) refl

simple_step : {R : Type 0} (m : Mark) (inside closed : Bool) (more next ends : R) → IsSimple m → step (sign_of m) inside closed more next ends ≡ more
simple_step m inside closed more next ends (inl e) = rw e refl
simple_step m inside closed more next ends (inr (inl e)) = rw (e.0, e.1) refl
simple_step m inside closed more next ends (inr (inr e)) = rw (e.0, e.1) refl

no_fault : (inside : Bool) (before : ℕ) (marks : List Mark) → AllByRecursion IsSimple marks → brace_fault inside before (map token_of marks) ≡ None
no_fault inside before [] h = refl
no_fault inside before (m ∷ ms) h =
    simple_fault m m.at inside before (has_close (map token_of ms)) (parts_from (map token_of ms)) (λ inside before. brace_fault inside before (map token_of ms)) h.0
    ∙ no_fault inside before ms h.1

one_piece : (front marks : List Mark) → AllByRecursion IsSimple marks → pieces_of false [] (map token_of front) (map token_of marks) ≡ (map token_of (front ++ marks) ∷ []) ∷ []
one_piece front [] h = ap (λ ms. (map token_of ms ∷ []) ∷ []) (sym (append-nil front))
one_piece front (m ∷ ms) h =
    simple_step m false (has_close (map token_of ms)) (pieces_of false [] (map token_of front ++ token_of m ∷ []) (map token_of ms)) _ _ h.0
    ∙ ap (λ part. pieces_of false [] part (map token_of ms)) (sym (map-append token_of front (m ∷ [])))
    ∙ one_piece (front ++ m ∷ []) ms h.1
    ∙ ap (λ ms. (map token_of ms ∷ []) ∷ []) (append_assoc front (m ∷ []) ms)

one_alternative : (marks : List Mark) → AllByRecursion IsSimple marks → alternatives_of (pieces_in (map token_of marks)) ≡ map token_of marks ∷ []
one_alternative marks h = ap alternatives_of (one_piece [] marks h) ∙ nothing-each_then (map token_of marks ∷ [])

simple_name : (at : ℕ) (name : List ℕ) (behind : List Mark) → list_any is_slash_byte name ≡ false → AllByRecursion IsSimple behind → AllByRecursion IsSimple (name_marks at name ++ behind)
simple_name at [] behind e h = h
simple_name at (c ∷ cs) behind e h =
    let other = or_parts (is_slash_byte c) (list_any is_slash_byte cs) e in
    (inr (inl (other.0, refl)), simple_name (past at c) cs behind other.1 h)

simple_folder : (at : ℕ) (names : Path) → AllByRecursion AreNameChars names → AllByRecursion IsSimple (folder_marks at names)
simple_folder at [] h = (inr (inr (refl, refl)), (inr (inr (refl, refl)), (inl refl, (inr (inr (refl, refl)), tt))))
simple_folder at (name ∷ names) h = simple_name at name (plain_mark (past_name at name) slash ∷ folder_marks (past_name at name + 1) names) h.0.slashes (inl refl, simple_folder (past_name at name + 1) names h.1)

-- ---- the components
abbrev folder_components : ℕ → Path → List (List Mark)
folder_components at [] = (plain_mark at asterisk ∷ plain_mark (at + 1) asterisk ∷ []) ∷ (plain_mark (at + 1 + 1 + 1) asterisk ∷ []) ∷ []
folder_components at (name ∷ names) = name_marks at name ∷ folder_components (past_name at name + 1) names

components_name : (at place : ℕ) (name : List ℕ) (behind : List Mark) → list_any is_slash_byte name ≡ false → components_of (map token_of (name_marks at name ++ plain_mark place slash ∷ behind)) ≡ map token_of (name_marks at name) ∷ components_of (map token_of behind)
components_name at place [] behind e = refl
components_name at place (c ∷ cs) behind e =
    let other = or_parts (is_slash_byte c) (list_any is_slash_byte cs) e in
    rw (other.0, components_name (past at c) place cs behind other.1) refl

components_folder : (at : ℕ) (names : Path) → AllByRecursion AreNameChars names → components_of (map token_of (folder_marks at names)) ≡ map (map token_of) (folder_components at names)
components_folder at [] h = refl
components_folder at (name ∷ names) h =
    components_name at (past_name at name) name (folder_marks (past_name at name + 1) names) h.0.slashes
    ∙ ap (λ rest. map token_of (name_marks at name) ∷ rest) (components_folder (past_name at name + 1) names h.1)

-- ---- none climbs
no_climb_name : (at : ℕ) (name : List ℕ) → AreNameChars name → climb_at (map token_of (name_marks at name)) ≡ None
no_climb_name at [] h = refl
no_climb_name at (a ∷ []) h = refl
no_climb_name at (a ∷ b ∷ []) h =
    let first = or_parts (is_slash_byte a) (list_any is_slash_byte (b ∷ [])) h.slashes in
    let second = or_parts (is_slash_byte b) false first.1 in
    rw (first.0, second.0) (by (a == period) (b == period) h.dots)
  where
    by : (x y : Bool) → ((x && false) || (x && (y && true))) ≡ false → cond (x && y) (Some at) None ≡ None
    by true true e = cc
    by true false e = refl
    by false y e = refl
no_climb_name at (a ∷ b ∷ c ∷ cs) h = refl

no_climb : (at : ℕ) (names : Path) → AllByRecursion AreNameChars names → climb_in (map (map token_of) (folder_components at names)) ≡ None
no_climb at [] h = refl
no_climb at (name ∷ names) h = rw (no_climb_name at name h.0, no_climb (past_name at name + 1) names h.1) refl

-- the glob has no fault
pub sound_below : (at : ℕ) (names : Path) → AllByRecursion AreNameChars names → fault_at at (below_folder names) ≡ None
unfolding fault_at first_fault
sound_below at names h =
    let marks = folder_marks at names in
    let simple = simple_folder at names h in
    rw (tokens_below at names, no_fault false 1 marks simple, one_alternative marks simple, components_folder at names h, no_climb at names h) refl

-- ---- the parts
-- the parts that take the names, any components, and one more
abbrev pub name_part : List ℕ → Part
name_part name = Named (map (λ c. atom.Char c) name)

abbrev pub folder_parts : Path → List Part
folder_parts [] = Span ∷ Named (atom.Star ∷ []) ∷ []
folder_parts (name ∷ names) = name_part name ∷ folder_parts names

atoms_name : (at : ℕ) (name : List ℕ) → list_any is_slash_byte name ≡ false → name_from false (map token_of (name_marks at name)) ≡ map (λ c. atom.Char c) name
atoms_name at [] e = refl
atoms_name at (c ∷ cs) e =
    let other = or_parts (is_slash_byte c) (list_any is_slash_byte cs) e in
    rw (other.0, atoms_name (past at c) cs other.1) refl

part_name : (at : ℕ) (name : List ℕ) → AreNameChars name → part_of (map token_of (name_marks at name)) ≡ Some (name_part name)
part_name at [] h = absurd (h.some refl)
part_name at (a ∷ []) h =
    let first = or_parts (is_slash_byte a) false h.slashes in
    rw first.0 (by (a == period) h.dots)
  where
    by : (x : Bool) → ((x && true) || (x && false)) ≡ false → cond x None (Some (name_part (a ∷ []))) ≡ Some (name_part (a ∷ []))
    by true e = cc
    by false e = refl
part_name at (a ∷ b ∷ []) h =
    let first = or_parts (is_slash_byte a) (list_any is_slash_byte (b ∷ [])) h.slashes in
    let second = or_parts (is_slash_byte b) false first.1 in
    rw (first.0, second.0) refl
part_name at (a ∷ b ∷ c ∷ cs) h = ap (λ (atoms : List Atom). Some (Named atoms)) (atoms_name at (a ∷ b ∷ c ∷ cs) h.slashes)

parts_folder : (at : ℕ) (names : Path) → AllByRecursion AreNameChars names → filter_map part_of (map (map token_of) (folder_components at names)) ≡ folder_parts names
parts_folder at [] h = refl
parts_folder at (name ∷ names) h = rw (part_name at name h.0, parts_folder (past_name at name + 1) names h.1) refl

-- the glob has one alternative
pub read_below : (at : ℕ) (names : Path) → AllByRecursion AreNameChars names → glob_from at (below_folder names) ≡ folder_parts names ∷ []
unfolding glob_from
read_below at names h =
    let marks = folder_marks at names in
    rw (tokens_below at names, one_alternative marks (simple_folder at names h), components_folder at names h, parts_folder at names h) refl
