-- Which packages an owner that stays depends on, and what it needs from outside.
use Rattle.std.proofs.Common.{◌≡◌, ◌&&◌, ◌||◌, ℕ, Bool, true, not, List, [], ◌++◌, filter, refl, sym, ap, ◌∙◌, inl, inr}
use mathlib.Core.Path.{fun_ext}
use Rattle.std.specs.Prelude.{is_some, bytes_eq}
use Rattle.std.specs.List.{join_with_byte}
use Rattle.std.proofs.lemmas.Bool.{cases_Bool, and_parts, and_from, false_from_ne_true}
use Rattle.std.proofs.lemmas.Slice.Eq.{bytes_eq-Decides}
use Rattle.rel_path.specs.Paths.{Path, name_cmp}
use Rattle.manifest.specs.declared.manifest.Manifest.{Manifest}
use Rattle.workspaces.specs.declared.member.Package.{Package}
use Rattle.workspaces.specs.Edges.{links, edge_from, dep_text, is_peer, is_inner, is_outer, is_soft, names_in, hard_names, soft_names, needs_of}
use Rattle.workspaces.specs.Lists.{Has, ascending}
use Rattle.workspaces.specs.Space.{root_name, owners}
use Rattle.collect.specs.Parts.{starts_from, starts_of}
use Rattle.repository.specs.Reading.{Contents}
use Rattle.kept_packages.specs.Kept.{IsClosed}
use Rattle.prune_facts.proofs.Lists.{filter_test, any_same, any-filter}
use Rattle.prune_laws.proofs.Owners.{IsSound, part_of, not_root, one_owner, package_owner}

-- where all packages that a manifest links to stay, it needs the same from outside
module _ (keep : Package → Bool) (packages : List Package) (m : Manifest) (all : (q : Package) → Has packages q → links m q ≡ true → keep q ≡ true) where
  same_inner : (name : List ℕ) → is_inner (filter keep packages) m name ≡ is_inner packages m name
  unfolding is_inner
  same_inner name =
      any-filter (λ (q : Package). bytes_eq q.name name && links m q) keep packages
      ∙ any_same _ _ packages (λ q h. filter_test (keep q) (bytes_eq q.name name && links m q) (bytes_eq q.name name && links m q) (λ k. refl) (λ t. all q h (and_parts (bytes_eq q.name name) _ t).1))

  same_outer : is_outer (filter keep packages) m ≡ is_outer packages m
  unfolding is_outer
  same_outer = fun_ext (λ name. ap (λ b. is_peer m name || (is_some (dep_text m name) && not b)) (same_inner name))

  pub same_needs : needs_of (filter keep packages) m ≡ needs_of packages m
  unfolding hard_names soft_names
  same_needs = λ j. record {
    hard = ascending name_cmp (filter (λ name. same_outer j name && not (is_soft m name)) (names_in m));
    soft = ascending name_cmp (filter (λ name. same_outer j name && is_soft m name) (names_in m));
  }

module _ (contents : Contents) (targets : List (List ℕ)) (set : Path → Bool) (sound : IsSound contents.space contents.setup) (closed : IsClosed contents targets set) where
  -- what an owner that stays links to stays
  linked : (p q : Package) → Has (owners contents.space) p → set p.folder ≡ true → Has contents.space.packages q → links p.manifest q ≡ true → set q.folder ≡ true
  unfolding edge_from
  linked p q h k u l = elim (cases_Bool (bytes_eq p.name q.name)) [
    | inl e ↦ ap (λ (o : Package). set o.folder) (sym (one_owner contents.space contents.setup sound p q h (package_owner contents.space q u) ((bytes_eq-Decides p.name q.name).0 e))) ∙ k
    | inr n ↦ closed.edges p q (record { owner = h; stays = k }) u (and_from (not (bytes_eq p.name q.name)) _ (ap not n) l)
  ]

  -- and so does what the root links to, whether it stays or not
  root_linked : (q : Package) → Has contents.space.packages q → links contents.space.root q ≡ true → set q.folder ≡ true
  unfolding edge_from
  root_linked q u l = closed.rooted q u (and_from (not (bytes_eq root_name q.name)) _ (ap not (false_from_ne_true (bytes_eq root_name q.name) (λ e. not_root contents.space contents.setup sound q u (sym ((bytes_eq-Decides root_name q.name).0 e))))) l)

  -- look-ups start at the same places
  pub same_starts : (p : Package) → Has (owners contents.space) p → set p.folder ≡ true → starts_of (part_of contents.space set) p ≡ starts_of contents.space p
  unfolding starts_of
  same_starts p h k =
      let a = same_needs (λ (q : Package). set q.folder) contents.space.packages p.manifest (λ q u l. linked p q h k u l) in
      let b = same_needs (λ (q : Package). set q.folder) contents.space.packages contents.space.root root_linked in
      λ j. starts_from (join_with_byte 47 p.folder) (a j) ++ starts_from [] (b j)
