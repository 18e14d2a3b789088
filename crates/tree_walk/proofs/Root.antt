-- The walk from the root.
use Rattle.std.proofs.Common.{◌≡◌, ◌≤◌, Bool, true, false, ◌||◌, ◌&&◌, List, [], ◌++◌, length, refl, sym, ap, subst, ◌∙◌}
use Rattle.std.specs.Prelude.{Option, Some, None, Ok, Err}
use Rattle.std.specs.List.Sorted.{IsStrictlySortedBy}
use Rattle.rel_path.specs.Paths.{Path, path_cmp}
use Rattle.rel_path.specs.Files.{FileMap, has}
use Rattle.tree_walk.specs.declared.error.WalkErr.{WalkErr}
use Rattle.tree_walk.specs.declared.error.WalkErr.TheVariants.{TooDeep, TooMany, Failed, OutOfMemory}
use Rattle.tree_walk.specs.Traversal.{is_chosen, stands, IsOnTheWay, is_before, Went, StopsDeep, StopsMany, Gathered, everywhere}
use Rattle.tree_walk.specs.Walked.{walk_choice, is_walked, IsEntry, WalkedTo, Walks}

chosen_walked : (files : FileMap) (p : Path) → is_chosen files walk_choice [] p ≡ is_walked files p
unfolding is_chosen
chosen_walked files p = refl

went_to : (files : FileMap) (stop : Option Path) (found : List Path) → IsStrictlySortedBy path_cmp found → Went files walk_choice 64 [] everywhere stop found → WalkedTo files stop found
went_to files stop found up w = record {
  ascend = up;
  exact = λ p. w.exact p ∙ ap (λ b. b && (true && is_before stop p)) (chosen_walked files p);
  shallow = λ p way b. w.shallow p way refl b;
}

pub walks_ok : (Tells : Type 0) (files : FileMap) (held : Path → Bool) (found : List Path) (u : Unit {0}) → length found ≤ 200000
    → Gathered Tells files held walk_choice 64 200000 [] everywhere [] found (Ok u) → Walks Tells files (Ok found)
walks_ok Tells files held found u few g = subst (λ x. Walks Tells files (Ok x)) (sym g.is) (
  record { ascend = g.adds.ascend; kept = λ p h. (g.adds.inside p h).0; few = subst (λ (x : List Path). length x ≤ 200000) g.is few },
  λ t. went_to files None g.more g.adds.ascend (g.told t),
)

only_files : (files : FileMap) (held : Path → Bool) → ((p : Path) → held p ≡ false) → (q : Path) → IsOnTheWay (stands files held) walk_choice.enters [] q → IsEntry files q
only_files files held free q way = record { reached = way.reached; rest = way.rest; there = first_of_or (has files (q ++ way.rest)) _ way.there (free (q ++ way.rest)) }
  where
    first_of_or : (a b : Bool) → (a || b) ≡ true → b ≡ false → a ≡ true
    first_of_or true b h n = refl
    first_of_or false b h n = absurd (let y : true ≡ false = sym h ∙ n in cc)

pub walks_err : (Tells : Type 0) (files : FileMap) (held : Path → Bool) (found : List Path) (stop : WalkErr) → ((p : Path) → held p ≡ false) → length found ≤ 200000
    → Gathered Tells files held walk_choice 64 200000 [] everywhere [] found (Err stop) → Walks Tells files (Err stop)
walks_err Tells files held found (TooDeep q) free few g = λ t.
    let s : StopsDeep files held walk_choice 64 [] everywhere q g.more = g.told t in
    (g.more, record { walked = went_to files (Some q) g.more g.adds.ascend s.went; few = subst (λ (x : List Path). length x ≤ 200000) g.is few; entry = only_files files held free q s.way; deep = s.deep })
walks_err Tells files held found TooMany free few g = λ t.
    let s : ((stop : Path) × StopsMany files walk_choice 64 [] everywhere stop g.more) × (length found ≡ 200000) = g.told t in
    (s.0.0, g.more, record { walked = went_to files (Some s.0.0) g.more g.adds.ascend s.0.1.went; full = ap (λ (x : List Path). length x) (sym g.is) ∙ s.1; file = sym (chosen_walked files s.0.0) ∙ s.0.1.chosen; fine = s.0.1.fine })
walks_err Tells files held found Failed free few g = tt
walks_err Tells files held found OutOfMemory free few g = tt
