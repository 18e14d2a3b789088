-- Tasks of the packages that an owner depends on.
use Rattle.std.proofs.Common.{◌≡◌, ◌<◌, ℕ, zero, suc, Bool, true, List, [], ◌∷◌, length, map, sym, ap, ◌∙◌, subst, arith}
use Rattle.std.specs.Prelude.{filter}
use Rattle.std.specs.List.{HoldsAt}
use Rattle.task_definitions.specs.Setup.{Setup}
use Rattle.workspaces.specs.declared.member.Package.{Package}
use Rattle.workspaces.specs.Edges.{has_edge}
use Rattle.workspaces.specs.Lists.{places, passes_at}
use Rattle.workspaces.specs.Members.{edges_of}
use Rattle.workspaces.specs.Reach.{AreBelow}
use Rattle.workspaces.specs.Space.{Space, root_package, owners, IsOwnerAt}
use Rattle.task_graph.specs.Ids.{task_id}
use Rattle.task_graph.specs.Tasks.{tasks_in, has_def}
use Rattle.task_graph.specs.Edges.{upstream, needed_by}
use Rattle.workspaces.proofs.Order.{all_from}
use Rattle.workspaces.proofs.Lists.{has-places}
use Rattle.task_graph.proofs.Named.{by_places, owner_held, are_owners}
use Rattle.std.proofs.lemmas.Bool.{false≢true}

passes_within : {X : Type 0} (test : X → Bool) (xs : List X) (q : ℕ) → passes_at test xs q ≡ true → q < length xs
passes_within test [] q is = absurd (false≢true is)
passes_within test (x ∷ xs) zero is = omega arith
passes_within test (x ∷ xs) (suc q) is = let less = passes_within test xs q is in omega (arith, less)

places_below : {X : Type 0} (test : X → Bool) (xs : List X) → AreBelow (length xs) (places test xs)
places_below test xs = all_from (λ p. p < length xs) (places test xs) (λ q has. passes_within test xs q (has-places test xs q has))

module _ (space : Space) (config : Setup) (name task es : List ℕ) (o : ℕ) (owner : IsOwnerAt space name o) (edges : HoldsAt (λ (member : Package). es ≡ edges_of space.packages member) (owners space) o) where
  pub edges_below : AreBelow (length (owners space)) es
  unfolding edges_of
  edges_below =
      let found = owner_held space name o (λ (member : Package). es ≡ edges_of space.packages member) owner edges in
      subst (λ ns. AreBelow (length (owners space)) ns) (sym found.2) (are_owners space (places (has_edge found.0) space.packages) (places_below (has_edge found.0) space.packages))

  pub upstream_is : tasks_in (owners space) config es task ≡ upstream space config name task
  unfolding upstream edges_of
  upstream_is =
      let found = owner_held space name o (λ (member : Package). es ≡ edges_of space.packages member) owner edges in
      ap (λ ns. tasks_in (owners space) config ns task) found.2
      ∙ (ap (filter (has_def config)) (by_places (λ n. task_id n task) (has_edge found.0) space.packages (root_package space.root ∷ []))
      ∙ ap (λ m. filter (has_def config) (map (λ (member : Package). task_id member.name task) (needed_by space m))) (sym found.1))
