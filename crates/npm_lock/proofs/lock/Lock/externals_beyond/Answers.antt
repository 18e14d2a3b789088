use Rattle.std.proofs.Common.{◌∙◌, ◌++◌, List, sym, ap, None, subst}
use Rattle.serde_json.specs.View.{view}
use Rattle.lock_entries.specs.Lockfile.{entries_in}
use Rattle.npm_lock.specs.Externals.{IsExternals, IsMissing, IsLeastLack, members_in}
use Rattle.npm_lock.specs.declared.start.Start.{Start}
use Rattle.npm_lock.specs.Reach.{set_of}
use Rattle.npm_lock.proofs.lock.Lock.externals_beyond.Goals as goal

pub reached_beyond-requires-clause-base : goal.reached_beyond-requires-clause-base
reached_beyond-requires-clause-base c = rw c.entries-entries.ensures.value c.requires

pub lack_beyond-requires-clause-base : goal.lack_beyond-requires-clause-base
lack_beyond-requires-clause-base c = rw c.entries-entries.ensures.value c.requires

pub lack_beyond-requires-clause-set : goal.lack_beyond-requires-clause-set
lack_beyond-requires-clause-set c = rw c.as_slice.ensures.value c.in_ok-set.ensures.least

pub returns-in-Some : goal.returns-in-Some
returns-in-Some c =
    let every : List Start = c.args.starts.now ++ c.args.base.now.starts in
    let es = c.entries-entries.result.now in
    let set = set_of es c.as_slice.result.now in
    rw (← c.entries-entries.ensures.value) (
      set,
      rw c.as_slice.ensures.value c.in_ok-set.ensures.least,
      subst (IsLeastLack es every set) c.in-Some.is c.in_ok-from.ensures.least,
    )

pub returns : goal.returns
returns c =
    let every : List Start = c.args.starts.now ++ c.args.base.now.starts in
    let es = c.entries-entries.result.now in
    let d = view c.args.self.now in
    let bits = c.in_ok-set.set.items in
    let set = set_of es bits in
    let is : IsExternals (entries_in d) every set = subst (λ x. IsExternals x every set) c.entries-entries.ensures.value c.in_ok-set.ensures.least in
    let lacking : IsLeastLack es every set None = subst (λ b. IsLeastLack es every (set_of es b) None) c.as_slice.ensures.value (subst (IsLeastLack es every (set_of es c.as_slice.result.now)) c.in-None.is c.in_ok-from.ensures.least) in
    let none : (s : Start) → ¬ IsMissing (entries_in d) every set s = subst (λ x. (s : Start) → ¬ IsMissing x every set s) c.entries-entries.ensures.value lacking in
    let pairs = c.in_ok-members-in-None.ensures
    ∙ ap (λ b. members_in d (set_of (entries_in d) b)) c.as_slice-in-None.ensures.value ∙ ap (λ xs. members_in d (set_of xs bits)) (sym c.entries-entries.ensures.value) in
    (set, is, none, pairs)
