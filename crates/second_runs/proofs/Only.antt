-- Where there is a reason to refuse a run, nothing else is answered.
use Rattle.std.proofs.Common.{◌≡◌, ◌∙◌, inl, inr, ℕ, Bool, true, false, List, None, Err, refl, sym, ap, subst}
use Rattle.std.proofs.lemmas.Result.{IfErr-at_err}
use Rattle.record_log.specs.Frames.{Fault, reading, IsSound}
use Rattle.artifact_store.specs.Pairs.{stands_for}
use Rattle.cli_words.specs.declared.order.Access.{Access}
use Rattle.refusals.specs.declared.refusal.Refusal.{Refusal}
use Rattle.refusals.specs.declared.refusal.StoreFile.{StoreFile}
use Rattle.refusals.specs.declared.refusal.StoreFile.TheVariants as file
use Rattle.run_laws.specs.Effects.{Book}
use Rattle.run_plan.specs.declared.plan.Plan.{Plan}
use Rattle.answers.specs.declared.answer.Answer.{Answer}
use Rattle.answers.specs.declared.answer.Answer.TheVariants.{Done, Refused, TreeFault, StoreFault, StartFault, SinkFault, OutOfMemory}
use Rattle.answers.specs.Answers.{IfDone, IfRefused}
use Rattle.answers.specs.Moments.{Held}
use Rattle.store_answers.specs.Facts.{no_some, held_none, same_stores}
use Rattle.store_answers.specs.Refused.{IsNoStore, IsNoStores, store_refusal}
use Rattle.store_answers.specs.Stores.{Stores, held_by}
use Rattle.second_runs.specs.Moments.{Moment, both_of, local_in}
use Rattle.second_runs.specs.Outcomes.{AreStores, RanSecond}
use Rattle.second_runs.specs.Refused.{HasNoOther, IsNoneRead}
use Rattle.second_runs.proofs.Currents.{local_is}

-- ---- bytes that are no store

stands_none : (stored : List ℕ) (fault : Fault) → reading stored ≡ Err fault
    → stands_for stored ≡ None
unfolding stands_for
stands_none stored fault bad = rw (bad, stands_for) refl

not_sound : (stored : List ℕ) (fault : Fault) → IsSound stored → reading stored ≡ Err fault → ⊥
not_sound stored fault sound bad = let e = sym sound ∙ bad in cc

same_reason : (named : StoreFile) (stored : List ℕ) (reason other : Refusal)
    → IsNoStore named stored reason → IsNoStore named stored other → other ≡ reason
same_reason named stored reason other a b =
    let same : b.fault ≡ a.fault = IfErr-at_err (λ y. b.fault ≡ y) {r = Err b.fault} {y = a.fault}
    (sym b.reads ∙ a.reads) refl in
    b.is ∙ ap (store_refusal named) same ∙ sym a.is

sound_stores : (stores : Stores) (reason : Refusal) → IsSound stores.store × IsSound stores.spare
    → IsNoStores stores reason → ⊥
sound_stores stores reason (sound, also) (inl bad) =
    not_sound stores.store bad.fault sound bad.reads
sound_stores stores reason (sound, also) (inr (first, bad)) =
    not_sound stores.spare bad.fault also bad.reads

-- ---- a run that was done

opened_of : (is_dry : Bool) (access : Access) (book : Book) (plan : Plan) (Heard : Type 0)
    (old new : Moment) (status : ℕ) → RanSecond is_dry access book plan Heard old new status
    → AreStores old.held
opened_of true access book plan Heard old new status ran = ran.both
opened_of false access book plan Heard old new status ran = ran.both

module _ (access : Access) (stores : Stores) (second : List ℕ) where
  not_none : (reason : Refusal) → AreStores (both_of (local_in access stores) (held_by second))
      → IsNoneRead access stores second reason → ⊥
  not_none reason both (inl (reads, bad)) =
      no_some (sym (held_none stores reason bad)
      ∙ sym (ap (λ (h : Held). h.pairs) (local_is access stores reads)) ∙ both.local_is)
  not_none reason both (inr (sound, bad)) =
      no_some (sym (stands_none second bad.fault bad.reads) ∙ both.second_is)

  one_reason : (reason other : Refusal) → IsNoneRead access stores second reason
      → IsNoneRead access stores second other → other ≡ reason
  one_reason reason other (inl (reads, a)) (inl (read, b)) = same_stores stores reason other a b
  one_reason reason other (inl (reads, a)) (inr (sound, b)) =
      absurd (sound_stores stores reason (sound reads) a)
  one_reason reason other (inr (sound, a)) (inl (reads, b)) =
      absurd (sound_stores stores other (sound reads) b)
  one_reason reason other (inr (sound, a)) (inr (sounds, b)) =
      same_reason file.Second second reason other a b

  -- what is answered where there is a reason
  pub only_none : (is_dry : Bool) (book : Book) (plan : Plan) (Heard : Type 0) (old new : Moment)
      (answer : Answer) → old.held ≡ both_of (local_in access stores) (held_by second)
      → IfDone answer (RanSecond is_dry access book plan Heard old new)
      → IfRefused answer (IsNoneRead access stores second)
      → HasNoOther access stores second answer
  only_none is_dry book plan Heard old new (Done status) held ran refused reason is = (
    absurd (not_none reason
        (subst AreStores held (opened_of is_dry access book plan Heard old new status ran)) is),
    tt,
  )
  only_none is_dry book plan Heard old new (Refused other) held ran refused reason is =
      (tt, one_reason reason other is refused)
  only_none is_dry book plan Heard old new TreeFault held ran refused reason is = (tt, tt)
  only_none is_dry book plan Heard old new StoreFault held ran refused reason is = (tt, tt)
  only_none is_dry book plan Heard old new StartFault held ran refused reason is = (tt, tt)
  only_none is_dry book plan Heard old new SinkFault held ran refused reason is = (tt, tt)
  only_none is_dry book plan Heard old new OutOfMemory held ran refused reason is = (tt, tt)
