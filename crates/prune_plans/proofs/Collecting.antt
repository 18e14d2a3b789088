-- The listing of tasks of owners that stay is that of the pruned repository.
use Rattle.std.proofs.Common.{◌≡◌, ◌≤◌, ℕ, true, List, sym, ap, ◌∙◌, subst}
use Rattle.std.specs.Prelude.{Some, Ok}
use Rattle.rel_path.specs.Files.{FileMap}
use Rattle.rel_path.specs.Limits.{sum_limit}
use Rattle.workspaces.specs.declared.member.Package.{Package}
use Rattle.workspaces.specs.Lists.{Has}
use Rattle.workspaces.specs.Space.{Space, owners, owner_named}
use Rattle.task_definitions.specs.Setup.{Setup}
use Rattle.listing.specs.declared.part.Part.{Part}
use Rattle.listing.specs.declared.part.Listing.{Listing}
use Rattle.collect.specs.declared.wanted.Wanted.{Wanted}
use Rattle.collect.specs.Parts.{IsPart}
use Rattle.collect.specs.Refusals.{FindsAll, Collects}
use Rattle.repository.specs.Reading.{Contents}
use Rattle.pruned_files.specs.Pruned.{Pruning, IsPruning, pruned_files, pruned_setup}
use Rattle.prune_facts.proofs.Lists.{some_inj}
use Rattle.prune_facts.proofs.Sorted.{all_member, member_all}
use Rattle.prune_facts.proofs.Pairing.{pairs_within}
use Rattle.prune_laws.specs.Laws.{HasNoLockInput}
use Rattle.prune_laws.proofs.Owners.{IsSound, part_of, found_owner, named_still}
use Rattle.prune_laws.proofs.Defs.{IsFirm, same_def}
use Rattle.prune_laws.proofs.Inputs.{same_inputs}
use Rattle.prune_laws.proofs.Parts.{same_outs}
use Rattle.prune_plans.proofs.Using.{still_uses}
use Rattle.prune_plans.proofs.Reaching.{IsFine}
use Rattle.prune_plans.proofs.Taking.{no_lock, same_files, same_total, none_large}

module _ (contents : Contents) (targets : List (List ℕ)) (p : Pruning) (files : FileMap) (env : List (List ℕ × List ℕ))
    (sound : IsSound contents.space contents.setup) (is : IsPruning contents targets p) (free : HasNoLockInput files contents p) where
  abbrev part : Space
  part = part_of contents.space p.set

  abbrev setup' : Setup
  setup' = pruned_setup contents.setup contents.space p.set

  abbrev files' : FileMap
  files' = pruned_files p files

  module _ (w : Wanted) (fine : IsFine contents p.set w.id) (q : Package) (owned : owner_named contents.space w.id.«package» ≡ Some q) where
    is_owner : fine.owner ≡ q
    is_owner = some_inj fine.owner q (sym fine.owned ∙ owned)

    in_owners : Has (owners contents.space) q
    in_owners = (found_owner contents.space w.id.«package» q owned).0

    it_stays : p.set q.folder ≡ true
    it_stays = ap (λ (o : Package). p.set o.folder) (sym is_owner) ∙ fine.stays

    its_firm : IsFirm contents.setup q w.id.task
    its_firm = subst (λ (o : Package). IsFirm contents.setup o w.id.task) is_owner fine.firm

    still_owned : owner_named part w.id.«package» ≡ Some q
    still_owned = named_still contents.space contents.setup sound p.set w.id.«package» q owned it_stays

  module _ (w : Wanted) (fine : IsFine contents p.set w.id) where
    still_finds : FindsAll contents.space contents.lock w → FindsAll part p.lock w
    still_finds f = record {
      member = f.member;
      stands = still_owned w fine f.member f.stands;
      pairs = f.pairs;
      uses = still_uses contents targets p sound is f.member (in_owners w fine f.member f.stands) (it_stays w fine f.member f.stands) f.pairs f.uses;
    }

    still_part : (made : Part) → IsPart contents.setup contents.space contents.lock files contents.walk env w made → IsPart setup' part p.lock files' p.paths env w made
    still_part made a =
        let h = in_owners w fine a.member a.stands in
        let k = it_stays w fine a.member a.stands in
        let def = same_def contents.space contents.setup sound p.set a.member w.id.task h k (its_firm w fine a.member a.stands) in
        record {
          member = a.member;
          stands = still_owned w fine a.member a.stands;
          def = a.def;
          defined = def ∙ a.defined;
          «package» = a.«package»;
          folder = a.folder;
          task = a.task;
          scripts = a.scripts;
          args = a.args;
          outs = a.outs ∙ sym (same_outs contents targets p files env sound is a.member h k w.id.task a.def);
          env_pairs = a.env_pairs;
          inputs = a.inputs ∙ same_inputs contents targets p files sound is a.member h k w.id.task a.def a.defined (no_lock contents targets p files sound is free a.member w.id.task a.def h k a.defined);
          externals = still_uses contents targets p sound is a.member h k made.externals a.externals;
          deps = a.deps;
        }

  pub still_collects : (wanted : List Wanted) → ((w : Wanted) → Has wanted w → IsFine contents p.set w.id) → (listing : Listing)
      → Collects contents.setup contents.space contents.lock files contents.walk env wanted (Ok listing) → Collects setup' part p.lock files' p.paths env wanted (Ok listing)
  still_collects wanted fine listing c = (
    record {
      parts = pairs_within (IsPart contents.setup contents.space contents.lock files contents.walk env) (IsPart setup' part p.lock files' p.paths env) wanted listing.parts (λ w made h a. still_part w (fine w h) made a) c.0.parts;
      files_are = c.0.files_are ∙ sym (same_files contents targets p files sound is free wanted fine);
    },
    (
      record {
        found = member_all (FindsAll part p.lock) wanted (λ w h. still_finds w (fine w h) (all_member (FindsAll contents.space contents.lock) wanted w c.1.0.found h));
        small = none_large contents targets p files sound is free wanted fine c.1.0.small;
      },
      subst (λ n. n ≤ sum_limit) (sym (same_total contents targets p files sound is free wanted fine)) c.1.1,
    ),
  )
