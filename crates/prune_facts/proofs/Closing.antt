-- Two closures of the same tasks, each with the same part but for its numbers, and with the same bytes at the paths that they name.
use Rattle.std.proofs.Common.{◌≡◌, ℕ, Bool, true, false, cond, List, [], ◌∷◌, Option, Some, None, filter, map, refl, sym, ap, ◌∙◌, subst, inl, inr}
use Rattle.std.specs.Prelude.{slice_get}
use Rattle.std.specs.List.{cons_option}
use Rattle.std.specs.Option.{option_map}
use Rattle.std.specs.declared.cmp.Ordering.{Ordering}
use Rattle.std.specs.declared.cmp.Ordering.TheVariants.{Equal}
use Rattle.std.specs.Cmp.{IsTotalOrder}
use Rattle.rel_path.specs.Paths.{Path}
use Rattle.rel_path.specs.Files.{FileMap}
use Rattle.workspaces.specs.Lists.{Has, places}
use Rattle.listing.specs.declared.part.Part.{Part}
use Rattle.listing.specs.declared.part.Listing.{Listing}
use Rattle.run_laws.specs.Picks.{pick, rank}
use Rattle.run_laws.specs.Ancestors.{part_at, blank}
use Rattle.run_laws.specs.Closures.{names, renumbered, sub_parts, in_closure, closure}
use Rattle.collect.specs.Listings.{ArePaired, with_bytes}
use Rattle.prune_facts.proofs.Lists.{filter-has, filter-filter}
use Rattle.prune_facts.proofs.Following.{among}
use Rattle.prune_facts.proofs.Picking.{picked}
use Rattle.prune_facts.proofs.Pairing.{pairs_placed, pairs-pick, pairs_same}
use Rattle.prune_facts.proofs.Laying.{IsLaid, run, run_row, one_run}

-- ---- files

put-filter : (t : Path → Bool) (path : Path) (o : Option (List ℕ)) (rest : List (Path × List ℕ)) → filter (λ f. t f.0) (cons_option (option_map (λ bytes. (path, bytes)) o) rest)
    ≡ cond (t path) (cons_option (option_map (λ bytes. (path, bytes)) o) (filter (λ f. t f.0) rest)) (filter (λ f. t f.0) rest)
put-filter t path None rest = elim (t path) as (λ b. filter (λ f. t f.0) rest ≡ cond b (filter (λ f. t f.0) rest) (filter (λ f. t f.0) rest)) [ true ↦ refl | false ↦ refl ]
put-filter t path (Some bytes) rest = refl

filter-bytes : (t : Path → Bool) (files : FileMap) (paths : List Path) → filter (λ f. t f.0) (with_bytes files paths) ≡ with_bytes files (filter t paths)
filter-bytes t files [] = refl
filter-bytes t files (path ∷ paths) = put-filter t path (files path) (with_bytes files paths) ∙ by (t path) (filter-bytes t files paths)
  where
    by : (b : Bool) → filter (λ f. t f.0) (with_bytes files paths) ≡ with_bytes files (filter t paths)
        → cond b (cons_option (option_map (λ bytes. (path, bytes)) (files path)) (filter (λ f. t f.0) (with_bytes files paths))) (filter (λ f. t f.0) (with_bytes files paths)) ≡ with_bytes files (cond b (path ∷ filter t paths) (filter t paths))
    by true e = ap (cons_option (option_map (λ bytes. (path, bytes)) (files path))) e
    by false e = e

bytes_same : (files files' : FileMap) (paths : List Path) → ((path : Path) → Has paths path → files path ≡ files' path) → with_bytes files paths ≡ with_bytes files' paths
bytes_same files files' [] same = refl
bytes_same files files' (path ∷ paths) same =
    let a = same path (inl refl) in
    let b = bytes_same files files' paths (λ q h. same q (inr h)) in
    λ j. cons_option (option_map (λ bytes. (path, bytes)) (a j)) (b j)

-- of the needed files of a walk and of what is left of it, those that are named
pub named_files : (t needed needed' stays : Path → Bool) (files files' : FileMap) (walk paths : List Path) → paths ≡ filter stays walk
    → ((path : Path) → Has walk path → t path ≡ true → needed path ≡ true) → ((path : Path) → Has paths path → t path ≡ true → needed' path ≡ true)
    → ((path : Path) → t path ≡ true → stays path ≡ true) → ((path : Path) → t path ≡ true → files path ≡ files' path)
    → filter (λ f. t f.0) (with_bytes files (filter needed walk)) ≡ filter (λ f. t f.0) (with_bytes files' (filter needed' paths))
named_files t needed needed' stays files files' walk paths are whole part left same =
    filter-bytes t files (filter needed walk)
    ∙ ap (with_bytes files) (filter-filter t needed walk whole)
    ∙ bytes_same files files' (filter t walk) (λ path h. same path (filter-has t walk path h).1)
    ∙ ap (with_bytes files') (sym (filter-filter t stays walk (λ path h k. left path k)) ∙ ap (filter t) (sym are) ∙ sym (filter-filter t needed' paths part))
    ∙ sym (filter-bytes t files' (filter needed' paths))

-- ---- parts

-- a part without its numbers
abbrev pub unnumbered : Part → Part
unnumbered part = record part { deps = [] }

-- the part of a task at its place
abbrev pub IsPlaced : {X : Type 0} → List X → Listing → (X → Part → Type 0) → X → Part → Type 0
IsPlaced ids l T x part = (j : ℕ) × (slice_get ids j ≡ Some x) × (part_at l j ≡ part) × T x part

module _ {X : Type 0} (cmp : X → X → Ordering) (total : IsTotalOrder cmp) (tied : (a b : X) → cmp a b ≡ Equal → a ≡ b)
    (needs needs' : X → List X) (ids ids' : List X) (l l' : Listing) (laid : IsLaid cmp total tied needs ids l) (laid' : IsLaid cmp total tied needs' ids' l') (good : X → Bool)
    (holds : (x y : X) → good x ≡ true → Has (needs x) y → good y ≡ true) (same : (x : X) → good x ≡ true → needs' x ≡ needs x)
    (i i' : ℕ) (t : X) (at : slice_get ids i ≡ Some t) (at' : slice_get ids' i' ≡ Some t) (first : good t ≡ true)
    (T T' : X → Part → Type 0) (parts : ArePaired T ids l.parts) (parts' : ArePaired T' ids' l'.parts) where
  runs : run cmp total tied needs ids l laid i ≡ run cmp total tied needs' ids' l' laid' i'
  runs = one_run cmp total tied needs needs' ids ids' l l' laid laid' good holds same i i' t at at' first

  -- the parts of both closures are the same where, task by task, they are but for their numbers
  pub parts_same : ((x : X) (y z : Part) → Has (run cmp total tied needs ids l laid i) x → IsPlaced ids l T x y → IsPlaced ids' l' T' x z → (unnumbered y ≡ unnumbered z) × (needs' x ≡ needs x))
      → sub_parts l (in_closure l i) ≡ sub_parts l' (in_closure l' i')
  parts_same alike =
      pairs_same (IsPlaced ids l T) (IsPlaced ids' l' T') (renumbered (in_closure l i)) (renumbered (in_closure l' i')) (run cmp total tied needs ids l laid i) (pick (in_closure l i) l.parts) (pick (in_closure l' i') l'.parts)
      (λ x y z h p q. one x y z h p q (alike x y z h p q))
      (pairs-pick (IsPlaced ids l T) (in_closure l i) ids l.parts (pairs_placed T blank ids l.parts parts))
      (subst (λ xs. ArePaired (IsPlaced ids' l' T') xs (pick (in_closure l' i') l'.parts)) (sym runs) (pairs-pick (IsPlaced ids' l' T') (in_closure l' i') ids' l'.parts (pairs_placed T' blank ids' l'.parts parts')))
    where
      numbers : (x : X) (y z : Part) → Has (run cmp total tied needs ids l laid i) x → IsPlaced ids l T x y → IsPlaced ids' l' T' x z → needs' x ≡ needs x → map (rank (in_closure l i)) y.deps ≡ map (rank (in_closure l' i')) z.deps
      numbers x y z h p q n =
          ap (λ (part : Part). map (rank (in_closure l i)) part.deps) (sym p.2)
          ∙ run_row cmp total tied needs ids l laid i p.0 x (picked cmp total tied (in_closure l i) ids p.0 x laid.apart p.1 h) p.1
          ∙ (λ k. places (among cmp (sym n k)) (runs k))
          ∙ sym (run_row cmp total tied needs' ids' l' laid' i' q.0 x (picked cmp total tied (in_closure l' i') ids' q.0 x laid'.apart q.1 (subst (λ xs. Has xs x) runs h)) q.1)
          ∙ ap (λ (part : Part). map (rank (in_closure l' i')) part.deps) q.2

      one : (x : X) (y z : Part) → Has (run cmp total tied needs ids l laid i) x → IsPlaced ids l T x y → IsPlaced ids' l' T' x z → (unnumbered y ≡ unnumbered z) × (needs' x ≡ needs x) → renumbered (in_closure l i) y ≡ renumbered (in_closure l' i') z
      one x y z h p q both = let d = numbers x y z h p q both.1 in let e = both.0 in λ k. record (e k) { deps = d k }

-- the same parts and, of what they name, the same files
pub closure_same : (l l' : Listing) (i i' : ℕ) → sub_parts l (in_closure l i) ≡ sub_parts l' (in_closure l' i')
    → filter (λ f. names (sub_parts l (in_closure l i)) f.0) l.files ≡ filter (λ f. names (sub_parts l (in_closure l i)) f.0) l'.files → closure l i ≡ closure l' i'
closure_same l l' i i' parts files =
    (λ j. record { files = files j; parts = sub_parts l (in_closure l i) }) ∙ (λ j. record { files = filter (λ f. names (parts j) f.0) l'.files; parts = parts j })
