-- One turn of the loops over entries, and what the links of a set lead to.
use Rattle.std.proofs.Common.{◌≡◌, inl, inr, ⊎_elim, ◌<◌, ◌+◌, ℕ, Bool, true, false, cond, ◌&&◌, not, List, [], ◌∷◌, ◌++◌, length, get_or, drop, map, filter, Option, Some, None, is_none, nat_eq, subst, refl, sym, ap, ◌∙◌, append_assoc}
use Rattle.std.specs.Option.{option_to_list}
use Rattle.std.specs.List.{Contains, dedup}
use Rattle.std.specs.List.Sorted.{IsPermutation}
use Rattle.std.specs.Cmp.Lexicographic.{pointwise}
use Rattle.std.proofs.lemmas.Cmp.{nat_list_eq_equiv}
use Rattle.std.proofs.lemmas.List.Kept.{Contains-dedup, Contains-from_dedup}
use Rattle.std.proofs.lemmas.List.Sorted.{IsPermutation-sym, Contains-permutation}
use Rattle.std.proofs.lemmas.Slice.Eq.{bytes_eq-Decides}
use Rattle.rel_path.proofs.Parts.{turn}
use Rattle.lock_entries.specs.declared.entry.Name.{Name}
use Rattle.lock_entries.specs.declared.entry.Entry.{Entry}
use Rattle.lock_entries.specs.Lockfile.{Ascend}
use Rattle.npm_lock.specs.declared.start.Lack.{Lack}
use Rattle.npm_lock.specs.Sets.{Has}
use Rattle.npm_lock.specs.Lookup.{found_number}
use Rattle.npm_lock.specs.Finds.{found_by}
use Rattle.npm_lock.specs.Lacks.{least_after, with_lack, is_lacking, lacks_by, lacks_of, name_lacks, beyond, member_lacks}
use Rattle.npm_lock.specs.Reach.{is_set, set_of, links_of}
use Rattle.npm_lock.specs.Externals.{IsLinked}
use Rattle.npm_lock.proofs.Lacking.{after-append}
use Rattle.npm_lock.proofs.Locating.{flag_at, by_names, has_at, at_has}
use Rattle.npm_lock.proofs.Reaching.{has_right, has_append}

-- ---- one turn

module _ (es : List Entry) (up : Ascend es) (bits : List Bool) (i : ℕ) (e : Entry) (at : (i < length es) × (e ≡ get_or es i e)) where
  abbrev set : List ℕ → Bool
  set = set_of es bits

  flag : set e.location ≡ is_set bits i
  flag = flag_at es bits i e up at.0 at.1

  next : drop i es ≡ e ∷ drop (i + 1) es
  next = (turn es i e at).1

  pub member_turn : {Y : Type 0} (f : Entry → Y) (done now all : List Y) → now ≡ done ++ cond (is_set bits i) (f e ∷ []) []
      → done ++ map f (filter (λ x. set x.location) (drop i es)) ≡ all → now ++ map f (filter (λ x. set x.location) (drop (i + 1) es)) ≡ all
  member_turn f done now all is h =
      rw is (append_assoc done _ _ ∙ ap (λ ys. done ++ ys) (by (is_set bits i) (filter (λ x. set x.location) (drop (i + 1) es))) ∙ ap (λ b. done ++ map f (cond b (e ∷ filter (λ x. set x.location) (drop (i + 1) es)) (filter (λ x. set x.location) (drop (i + 1) es)))) (sym flag)
      ∙ ap (λ xs. done ++ map f (filter (λ x. set x.location) xs)) (sym next) ∙ h)
    where
      by : (b : Bool) (rest : List Entry) → cond b (f e ∷ []) [] ++ map f rest ≡ map f (cond b (e ∷ rest) rest)
      by true rest = refl
      by false rest = refl

  pub link_turn : (done now all : List (List ℕ)) → now ≡ done ++ cond (is_set bits i) (option_to_list e.link) []
      → done ++ links_of set (drop i es) ≡ all → now ++ links_of set (drop (i + 1) es) ≡ all
  link_turn done now all is h =
      rw is (append_assoc done _ _ ∙ ap (λ b. done ++ (cond b (option_to_list e.link) [] ++ links_of set (drop (i + 1) es))) (sym flag) ∙ ap (λ xs. done ++ links_of set xs) (sym next) ∙ h)

-- the same where only what is beyond a base counts
module _ (es : List Entry) (up : Ascend es) (base bits : List Bool) (i : ℕ) (e : Entry) (at : (i < length es) × (e ≡ get_or es i e)) where
  abbrev further : List ℕ → Bool
  further = beyond (set_of es base) (set_of es bits)

  further_flag : further e.location ≡ (is_set bits i && not (is_set base i))
  further_flag = rw (flag_at es bits i e up at.0 at.1, flag_at es base i e up at.0 at.1) refl

  further_next : drop i es ≡ e ∷ drop (i + 1) es
  further_next = (turn es i e at).1

  pub lack_turn : (found : List (Option ℕ)) (least now all : Option Lack) → found ≡ found_by es e → now ≡ least_after (lacks_of (is_set bits i && not (is_set base i)) e found) least
      → least_after (member_lacks es further (drop i es)) least ≡ all → least_after (member_lacks es further (drop (i + 1) es)) now ≡ all
  lack_turn found least now all f is h =
      ap (least_after (member_lacks es further (drop (i + 1) es))) (is ∙ ap (λ o. least_after (lacks_of (is_set bits i && not (is_set base i)) e o) least) f ∙ ap (λ b. least_after (lacks_of b e (found_by es e)) least) (sym further_flag) ∙ ap (λ xs. least_after xs least) (by_entry (further e.location) e.link refl))
      ∙ sym (after-append (cond (further e.location && is_none e.link) (name_lacks es e.location e.names) []) (member_lacks es further (drop (i + 1) es)) least)
      ∙ ap (λ xs. least_after (member_lacks es further xs) least) (sym further_next) ∙ h
    where
      by_name : (names : List Name) → lacks_by e.location names (map (λ (n : Name). found_number es e.location n.text) names) ≡ name_lacks es e.location names
      by_name [] = refl
      by_name (n ∷ names) = ap (with_lack (is_lacking n.soft (found_number es e.location n.text)) (record { from = e.location; name = n.text })) (by_name names)

      by_entry : (b : Bool) (o : Option (List ℕ)) → e.link ≡ o → cond (b && is_none e.link) (lacks_by e.location e.names (found_by es e)) [] ≡ cond (b && is_none e.link) (name_lacks es e.location e.names) []
      by_entry false o q = refl
      by_entry true None q =
          ap (λ o. cond (is_none o) (lacks_by e.location e.names (found_by es e)) []) q ∙ ap (lacks_by e.location e.names) (by_names es e q) ∙ by_name e.names ∙ sym (ap (λ o. cond (is_none o) (name_lacks es e.location e.names) []) q)
      by_entry true (Some l) q = ap (λ o. cond (is_none o) (lacks_by e.location e.names (found_by es e)) []) q ∙ sym (ap (λ o. cond (is_none o) (name_lacks es e.location e.names) []) q)

-- ---- what the links lead to

module _ (set : List ℕ → Bool) where
  pub links_linked : (es : List Entry) (folder : List ℕ) → Has (links_of set es) folder → IsLinked es set folder
  links_linked [] folder h = absurd h
  links_linked (e ∷ es) folder h =
      ⊎_elim (λ here. by (set e.location) e.link refl refl here)
      (λ later. let l = links_linked es folder later in record { entry = l.entry; among = inr l.among; is_member = l.is_member; leads = l.leads })
      (has_append (cond (set e.location) (option_to_list e.link) []) (links_of set es) folder h)
    where
      by : (b : Bool) (o : Option (List ℕ)) → set e.location ≡ b → e.link ≡ o → Has (cond b (option_to_list o) []) folder → IsLinked (e ∷ es) set folder
      by true (Some l) s q (inl same) = record { entry = e; among = inl refl; is_member = s; leads = q ∙ ap Some same }
      by true (Some l) s q (inr z) = absurd z
      by true None s q h = absurd h
      by false o s q h = absurd h

  pub linked_links : (es : List Entry) (folder : List ℕ) (e : Entry) → Has es e → set e.location ≡ true → e.link ≡ Some folder → Has (links_of set es) folder
  linked_links [] folder e h s q = absurd h
  linked_links (x ∷ es) folder e (inl same) s q = rw same (rw (s, q) (inl refl))
  linked_links (x ∷ es) folder e (inr h) s q = has_right (cond (set x.location) (option_to_list x.link) []) (links_of set es) folder (linked_links es folder e h s q)

-- ---- after a sort without doubles

contains_has : {X : Type 0} (xs : List X) (x : X) → Contains xs x → Has xs x
contains_has xs x h = has_at xs h.0 x h.1 (sym h.2)

has_contains : {X : Type 0} (xs : List X) (x : X) → Has xs x → Contains xs x
has_contains xs x h = let k = at_has xs x h in (k.0, k.1, sym k.2)

module _ (found sorted once : List (List ℕ)) (perm : IsPermutation found sorted) (same : once ≡ dedup (pointwise nat_eq) sorted) (folder : List ℕ) where
  pub once_found : Has once folder → Has found folder
  once_found h =
      contains_has found folder (Contains-permutation sorted found folder (IsPermutation-sym found sorted perm) (Contains-from_dedup (pointwise nat_eq) sorted folder (has_contains _ folder (subst (λ xs. Has xs folder) same h))))

  pub found_once : Has found folder → Has once folder
  found_once h =
      subst (λ xs. Has xs folder) (sym same) (contains_has _ folder (Contains-dedup nat_list_eq_equiv (λ x y e. (bytes_eq-Decides x y).0 e) sorted folder (Contains-permutation found sorted folder perm (has_contains found folder h))))
