-- Where there is a reason to refuse a run, nothing else is answered.
use Rattle.std.proofs.Common.{◌≡◌, ◌∙◌, ℕ, List, Bool, true, false, Some, Ok, Err, inl, inr}
use Rattle.std.proofs.Common.{refl, sym, ap}
use Rattle.std.specs.Prelude.{Result}
use Rattle.std.proofs.lemmas.Result.{IfOk-at_ok, IfErr-at_err}
use Rattle.rel_path.specs.Files.{FileMap}
use Rattle.cache_api.specs.Pairs.{Pair}
use Rattle.record_log.specs.Kinds.{Entry}
use Rattle.record_log.specs.Frames.{Fault}
use Rattle.pair_frames.specs.Pairs.{pairs_in}
use Rattle.cli_words.specs.declared.order.RunOrder.{RunOrder}
use Rattle.refusals.specs.declared.refusal.Refusal.{Refusal}
use Rattle.refusals.specs.declared.refusal.StoreFile.{StoreFile}
use Rattle.run_laws.specs.Effects.{Book}
use Rattle.run_plan.specs.declared.plan.Plan.{Plan}
use Rattle.plan_laws.specs.Laws.{AsksFor, OrderLaw}
use Rattle.answers.specs.declared.answer.Answer.{Answer}
use Rattle.answers.specs.declared.answer.Answer.TheVariants.{Done, Refused, TreeFault, StoreFault}
use Rattle.answers.specs.declared.answer.Answer.TheVariants.{StartFault, SinkFault, OutOfMemory}
use Rattle.answers.specs.Answers.{IfDone, IfRefused, IsNothingBut}
use Rattle.answers.specs.Moments.{Moment}
use Rattle.store_answers.specs.Facts.{no_some, held_none}
use Rattle.store_answers.specs.Refused.{IsNoStore, IsNoStores, store_refusal}
use Rattle.store_answers.specs.Stores.{Stores, held_in}
use Rattle.file_runs.specs.Outcomes as shared
use Rattle.file_runs.specs.Turns.{held_in_turn, if_store}
use Rattle.run_orders.specs.Asking.{HasNoOtherRun, HasNoOtherStore, IsRefusedRunOrder}
use Rattle.run_orders.specs.Moments.{StoreFiles}
use Rattle.run_orders.specs.Outcomes.{RanAs}
use Rattle.run_orders.specs.Uses.{uses_of}

-- By what is answered: it did not come to its end where there is a reason, and of the reasons there
-- is one.
pub only_reason : (Reason : Refusal → Type 0) (answer : Answer)
    → IfDone answer (λ _. (reason : Refusal) → Reason reason → ⊥)
    → IfRefused answer (λ other. (reason : Refusal) → Reason reason → other ≡ reason)
    → (reason : Refusal) → Reason reason → IsNothingBut reason answer
only_reason Reason (Done status) none one reason is = (absurd (none reason is), tt)
only_reason Reason (Refused other) none one reason is = (tt, one reason is)
only_reason Reason TreeFault none one reason is = (tt, tt)
only_reason Reason StoreFault none one reason is = (tt, tt)
only_reason Reason StartFault none one reason is = (tt, tt)
only_reason Reason SinkFault none one reason is = (tt, tt)
only_reason Reason OutOfMemory none one reason is = (tt, tt)

-- ---- a run that was done

-- over the current one of two stores: both are stores
pub not_current : (stores : Stores) (is_dry : Bool) (book : Book) (plan : Plan) (Heard : Type 0)
    (old new : Moment) (status : ℕ) → RanAs is_dry book plan Heard old new status
    → old.held.pairs ≡ (held_in stores).pairs → (reason : Refusal) → IsNoStores stores reason → ⊥
not_current stores true book plan Heard old new status ran held reason bad =
    no_some (sym (held_none stores reason bad) ∙ sym held ∙ ran.opened)
not_current stores false book plan Heard old new status ran held reason bad =
    no_some (sym (held_none stores reason bad) ∙ sym held ∙ ran.opened)

-- over a shared file: it is a store
not_file : (named : StoreFile) (file : List ℕ) (coming : List Entry) (pairs : List Pair)
    (reason : Refusal) → (held_in_turn file coming).pairs ≡ Some pairs
    → IsNoStore named file reason → ⊥
not_file named file coming pairs reason opened bad =
    no_some (sym (ap (λ (r : Result (List Entry) Fault). if_store r (pairs_in coming)) bad.reads)
    ∙ opened)

pub not_shared : (named : StoreFile) (file : List ℕ) (coming : List Entry) (is_dry : Bool)
    (book : Book) (plan : Plan) (Heard : Type 0) (old new : Moment) (end : List ℕ) (status : ℕ)
    → shared.RanAs is_dry book plan Heard old new end status
    → old.held.pairs ≡ (held_in_turn file coming).pairs
    → (reason : Refusal) → IsNoStore named file reason → ⊥
not_shared named file coming true book plan Heard old new end status ran held reason bad =
    not_file named file coming ran.before reason (sym held ∙ ran.opened) bad
not_shared named file coming false book plan Heard old new end status ran held reason bad =
    not_file named file coming ran.before reason (sym held ∙ ran.opened) bad

-- a file is no store for one reason
pub same_reason : (named : StoreFile) (file : List ℕ) (reason other : Refusal)
    → IsNoStore named file reason → IsNoStore named file other → other ≡ reason
same_reason named file reason other a b =
    let same : b.fault ≡ a.fault = IfErr-at_err (λ y. b.fault ≡ y) {r = Err b.fault} {y = a.fault}
    (sym b.reads ∙ a.reads) refl in
    b.is ∙ ap (store_refusal named) same ∙ sym a.is

-- ---- an order

module _ (law : OrderLaw) (order : RunOrder) (env : List (List ℕ × List ℕ)) (files : FileMap) where
  not_both : (plan : Plan) (reason : Refusal) → AsksFor order env files (Ok plan)
      → AsksFor order env files (Err reason) → ⊥
  not_both plan reason planned refused =
      IfOk-at_ok (λ _. ⊥) {r = Err reason} {x = plan}
      (law order env files (Err reason) (Ok plan) refused planned) tt

  one_asked : (reason other : Refusal) → AsksFor order env files (Err reason)
      → AsksFor order env files (Err other) → other ≡ reason
  one_asked reason other a b =
      IfErr-at_err (λ y. other ≡ y) {r = Err other} {y = reason}
      (law order env files (Err other) (Err reason) b a) refl

  -- where there is a plan, only its stores are a reason
  pub only_planned : (plan : Plan) (stores : StoreFiles) (answer : Answer)
      → AsksFor order env files (Ok plan)
      → HasNoOtherStore (uses_of order) order stores answer
      → HasNoOtherRun order env files stores answer
  only_planned plan stores answer planned none reason (inl refused) =
      absurd (not_both plan reason planned refused)
  only_planned plan stores answer planned none reason (inr bad) = none reason bad.none

  -- where there is none, no store is
  refused_asked : (stores : StoreFiles) (other reason : Refusal)
      → AsksFor order env files (Err other) → IsRefusedRunOrder order env files stores reason
      → other ≡ reason
  refused_asked stores other reason asks (inl refused) = one_asked reason other refused asks
  refused_asked stores other reason asks (inr bad) =
      absurd (not_both bad.plan other bad.asks asks)

  pub only_asked : (stores : StoreFiles) (answer : Answer) → IfDone answer (λ _. ⊥)
      → IfRefused answer (λ other. AsksFor order env files (Err other))
      → HasNoOtherRun order env files stores answer
  only_asked stores (Done status) none refused reason is = (none, tt)
  only_asked stores (Refused other) none refused reason is =
      (tt, refused_asked stores other reason refused is)
  only_asked stores TreeFault none refused reason is = (tt, tt)
  only_asked stores StoreFault none refused reason is = (tt, tt)
  only_asked stores StartFault none refused reason is = (tt, tt)
  only_asked stores SinkFault none refused reason is = (tt, tt)
  only_asked stores OutOfMemory none refused reason is = (tt, tt)
