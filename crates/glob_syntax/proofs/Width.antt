-- A glob without a fault has at most 256 alternatives.
use Rattle.std.proofs.Common.{◌≡◌, ◌≤◌, ◌+◌, ◌*◌, ℕ, Bool, true, false, ◌||◌, List, [], ◌∷◌, ◌++◌, length, map, Option, Some, None, refl, ◌∙◌, ap, arith, length-append, if◌then◌else◌}
use Rattle.std.specs.Prelude.{nat_lt}
use Rattle.std.proofs.lemmas.List.{length-map, length_push}
use Rattle.std.proofs.lemmas.Bool.Decides.{nat_tests}
use Rattle.rel_path.specs.Limits.{alternative_limit}
use Rattle.glob_syntax.specs.declared.error.GlobErr.{GlobErr}
use Rattle.glob_syntax.specs.declared.error.GlobErr.TheVariants as err
use Rattle.glob_syntax.specs.declared.token.Sign.{Sign}
use Rattle.glob_syntax.specs.declared.token.Sign.TheVariants as sign
use Rattle.glob_syntax.specs.declared.token.Token.{Token}
use Rattle.glob_syntax.specs.Braces.{is_close, has_close, part_more, parts_from, open_fault, sign_fault, brace_fault}
use Rattle.glob_syntax.specs.Climbs.{climb_of}
use Rattle.glob_syntax.specs.Faults.{place_of, earlier, pieces_in, first_fault}
use Rattle.glob_syntax.specs.Reading.{tokens_at, fault_at, glob_from}
use Rattle.glob_syntax.specs.Pieces.{step, pieces_of, each_then, alternatives_of}

-- ---- how many alternatives there are
abbrev pub width : List (List (List Token)) → ℕ
width [] = 1
width (parts ∷ pieces) = length parts * width pieces

length-each_then : (xs ys : List (List Token)) → length (each_then xs ys) ≡ length xs * length ys
length-each_then [] ys = omega arith
length-each_then (x ∷ xs) ys =
    length-append (map (λ (ts : List Token). x ++ ts) ys) (each_then xs ys) ∙ rw (length-map ys (λ (ts : List Token). x ++ ts), length-each_then xs ys) (omega arith)

length-alternatives_of : (pieces : List (List (List Token))) → length (alternatives_of pieces) ≡ width pieces
length-alternatives_of [] = refl
length-alternatives_of (parts ∷ pieces) = length-each_then parts (alternatives_of pieces) ∙ ap (λ n. length parts * n) (length-alternatives_of pieces)

-- ---- no fault keeps them few
-- what no fault says of the rest of a glob outside braces, behind b alternatives
abbrev Outside : List Token → Type 0
Outside ts = (b : ℕ) (part : List Token) → b ≤ alternative_limit → brace_fault false b ts ≡ None → b * width (pieces_of false [] part ts) ≤ alternative_limit

-- and inside a piece, behind b alternatives and some parts of it
abbrev Inside : List Token → Type 0
Inside ts = (b : ℕ) (parts : List (List Token)) (part : List Token) → has_close ts ≡ true → b * (length parts + parts_from ts) ≤ alternative_limit → brace_fault true (b * (length parts + parts_from ts)) ts ≡ None → b * width (pieces_of true parts part ts) ≤ alternative_limit

opened : (ts : List Token) (at b : ℕ) (part : List Token) (more : List (List (List Token))) (closed : Bool) → has_close ts ≡ closed → Inside ts →
    open_fault at false b closed (parts_from ts) (λ inside before. brace_fault inside before ts) ≡ None →
    (brace_fault false b ts ≡ None → b * width more ≤ alternative_limit) →
    b * width (if closed then (part ∷ []) ∷ pieces_of true [] [] ts else more) ≤ alternative_limit
opened ts at b part more false h inner e outer = cc
opened ts at b part more true h inner e outer = by (nat_lt alternative_limit (b * parts_from ts)) refl e
  where
    by : (wide : Bool) → nat_lt alternative_limit (b * parts_from ts) ≡ wide → (if wide then Some (err.Wide at) else brace_fault true (b * parts_from ts) ts) ≡ None → b * width ((part ∷ []) ∷ pieces_of true [] [] ts) ≤ alternative_limit
    by true w f = cc
    by false w f =
        let le : b * parts_from ts ≤ alternative_limit = grind (arith, nat_tests, w) in
        let same : 0 + parts_from ts ≡ parts_from ts = omega arith in
        omega (arith, inner b [] [] h (rw same le) (rw same f))

outside_step : (ts : List Token) (at b : ℕ) (part : List Token) (more next : List (List (List Token))) (s : Sign) → Inside ts →
    sign_fault s at false b (has_close ts) (parts_from ts) (λ inside before. brace_fault inside before ts) ≡ None →
    (brace_fault false b ts ≡ None → b * width more ≤ alternative_limit) →
    b * width (step s false (has_close ts) more next ((part ∷ []) ∷ pieces_of true [] [] ts)) ≤ alternative_limit
outside_step ts at b part more next sign.Open inner e outer = opened ts at b part more (has_close ts) refl inner e outer
outside_step ts at b part more next sign.Close inner e outer = outer e
outside_step ts at b part more next sign.Comma inner e outer = outer e
outside_step ts at b part more next sign.Slash inner e outer = outer e
outside_step ts at b part more next sign.OpenClass inner e outer = cc
outside_step ts at b part more next (sign.Atom atom) inner e outer = outer e

inside_step : (ts : List Token) (at b : ℕ) (parts : List (List Token)) (part longer : List Token) (s : Sign) → Inside ts → Outside ts →
    (is_close s || has_close ts) ≡ true → b * (length parts + part_more s (parts_from ts)) ≤ alternative_limit →
    sign_fault s at true (b * (length parts + part_more s (parts_from ts))) (has_close ts) (parts_from ts) (λ inside before. brace_fault inside before ts) ≡ None →
    b * width (step s true (has_close ts) (pieces_of true parts longer ts) (pieces_of true (parts ++ part ∷ []) [] ts) ((parts ++ part ∷ []) ∷ pieces_of false [] [] ts)) ≤ alternative_limit
inside_step ts at b parts part longer sign.Open inner outer h le e = cc
inside_step ts at b parts part longer sign.Close inner outer h le e = rw length_push (omega (arith, outer (b * (length parts + 1)) [] le e))
inside_step ts at b parts part longer sign.Comma inner outer h le e =
    let same : length (parts ++ part ∷ []) + parts_from ts ≡ length parts + (parts_from ts + 1) = rw length_push (omega arith) in
    inner b (parts ++ part ∷ []) [] h (rw same le) (rw same e)
inside_step ts at b parts part longer sign.Slash inner outer h le e = inner b parts longer h le e
inside_step ts at b parts part longer sign.OpenClass inner outer h le e = cc
inside_step ts at b parts part longer (sign.Atom atom) inner outer h le e = inner b parts longer h le e

few : (ts : List Token) → Outside ts × Inside ts
few [] = (λ b part le e. omega arith, λ b parts part h le e. cc)
few (t ∷ ts) =
    let more = few ts in (
      λ b part le e. outside_step ts t.at b part (pieces_of false [] (part ++ t ∷ []) ts) (pieces_of false (part ∷ []) [] ts) t.sign more.1 e (λ f. more.0 b (part ++ t ∷ []) le f),
      λ b parts part h le e. inside_step ts t.at b parts part (part ++ t ∷ []) t.sign more.1 more.0 h le e,
    )

pub few_alternatives : (ts : List Token) → brace_fault false 1 ts ≡ None → length (alternatives_of (pieces_of false [] [] ts)) ≤ alternative_limit
few_alternatives ts e = omega (arith, length-alternatives_of (pieces_of false [] [] ts), (few ts).0 1 [] (omega arith) e)

no_brace_fault : (fault : Option GlobErr) (climb : Option ℕ) → earlier fault climb ≡ None → fault ≡ None
no_brace_fault None climb e = refl
no_brace_fault (Some fault) None e = cc
no_brace_fault (Some fault) (Some at) e = by (nat_lt at (place_of fault)) e
  where
    by : (less : Bool) → (if less then Some (err.Climbs at) else Some fault) ≡ None → Some fault ≡ None
    by true e = cc
    by false e = e

pub few_without_fault : (start : ℕ) (cs : List ℕ) → fault_at start cs ≡ None → length (glob_from start cs) ≤ alternative_limit
unfolding fault_at glob_from first_fault
few_without_fault start cs e =
    let tokens = tokens_at start cs in
    rw (length-map) (few_alternatives tokens (no_brace_fault (brace_fault false 1 tokens) (climb_of (pieces_in tokens)) e))
