use Rattle.std.proofs.Common.{◌≡◌, ◌∙◌, map, ap, subst}
use Rattle.std.specs.Prelude.{IfOk}
use Rattle.std.proofs.lemmas.Result.{IfOk-weaker}
use Rattle.workspaces.specs.Reach.{leads_in, IsReached}
use Rattle.workspaces.specs.Space.{Space}
use Rattle.workspaces.specs.Members.{users_of, leads_back}
use Rattle.workspaces.proofs.MemberRows.{users_below, users_lead, reached_same}
use Rattle.workspaces.proofs.packages.Packages.above.Goals as goal

pub reached-requires-clause-rows : goal.reached-requires-clause-rows
reached-requires-clause-rows c =
    let packages = c.self.inside.packages.items in
    let rows : c.as_slice.result.now ≡ map (users_of packages) packages = c.as_slice.ensures.value ∙ c.self.invariant.users in
    rw rows (users_below packages)

pub returns : goal.returns
returns c =
    let packages = c.self.inside.packages.items in
    let rows : c.as_slice.result.now ≡ map (users_of packages) packages = c.as_slice.ensures.value ∙ c.self.invariant.users in
    record {
      reached = subst (λ (s : Space). IfOk c.reached.result (IsReached (leads_back s.packages) c.args.set.now)) c.self.view_is
          (IfOk-weaker c.reached.result (IsReached (leads_in c.as_slice.result.now) c.as_slice-2.result.now) (IsReached (leads_back packages) c.args.set.now)
          (λ found is. reached_same (leads_in c.as_slice.result.now) (leads_back packages) c.args.set.now found (λ p q. ap (λ r. leads_in r p q) rows ∙ users_lead packages p q) (subst (λ from. IsReached (leads_in c.as_slice.result.now) from found) c.as_slice-2.ensures is))
          c.reached.ensures.reached);
    }
