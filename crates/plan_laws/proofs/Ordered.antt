-- One answer to an order: one repository, and then one plan of it.
use Rattle.std.proofs.Common.{◌≡◌, subst}
use Rattle.repository.specs.Steps.{After}
use Rattle.planner.specs.Plans.{Plans}
use Rattle.plan_laws.specs.Laws.{RepositoryLaw, PlanLaw, OrderLaw}
use Rattle.plan_laws.proofs.Read.{after_one}

pub one_answer : RepositoryLaw → PlanLaw → OrderLaw
one_answer repository plan order env files one other s t =
    let same : s.0 ≡ t.0 = repository files s.0 t.0 s.1 t.1 in
    after_one t.0 (λ c. Plans c order env files) (λ c. plan c order env files) one other (subst (λ contents. After contents (λ c. Plans c order env files) one) same s.2) t.2
