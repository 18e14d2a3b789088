-- Two runs print one page.
use Rattle.std.proofs.Common.{◌≡◌, ℕ, zero, suc, ◌<◌, ◌&&◌, Bool, false, cond, List, [], ◌++◌, length, refl, sym, ap, ◌∙◌, arith}
use Rattle.page.specs.declared.blocks.Note.{Note}
use Rattle.run_core.specs.declared.states.Step.{Step}
use Rattle.run_core.specs.Greedy.{Tasks, stops, ended, is_reported, IsGreedy, HaveStatus}
use Rattle.run_core.specs.Moves.{ReportedLaw}
use Rattle.schedule_laws.specs.Starts.{StartsLaw}
use Rattle.run_laws.specs.Runs.{Setting}
use Rattle.run_plan.specs.declared.plan.Plan.{Plan}
use Rattle.run_plan.specs.Plans.{IsValidPlan}
use Rattle.run_plan.specs.Openings.{Opening, setting_of, tasks_of}
use Rattle.run_plan.specs.Results.{effect_at, NotedAs}
use Rattle.run_plan.specs.Pages.{shows, block_of, report_of, blocks, summary_of, page}
use Rattle.run_plan.proofs.Closing.{page-agree}
use Rattle.page_laws.specs.Pages.{with_room, AreOnePage, PageLaw}
use Rattle.page_laws.proofs.Notes.{noted_one, not_full}

-- pages with the same notes
module _ (plan : Plan) (s : Setting) (notes others : ℕ → Note) (reported : ℕ → Bool) where
  blocks_noted : (n : ℕ) → ((t : ℕ) → t < n → notes t ≡ others t) → blocks plan s notes reported n ≡ blocks plan s others reported n
  blocks_noted zero same = refl
  blocks_noted (suc n) same =
      let before = blocks_noted n (λ t h. same t (omega arith)) in
      let note = same n (omega arith) in
      λ i. before i ++ cond (shows plan reported n) (block_of plan n (report_of plan s (note i) n) (effect_at s n).log) []

  page_noted : ((t : ℕ) → t < length plan.listing.parts → notes t ≡ others t) → page plan s notes reported ≡ page plan s others reported
  page_noted same = ap (λ text. text ++ summary_of plan s reported) (blocks_noted (length plan.listing.parts) same)

module _ (reports : ReportedLaw) (starts : StartsLaw) (plan : Plan) (o : Opening) (valid : IsValidPlan plan) (going : stops plan.mode ≡ false) where
  abbrev s : Setting
  s = setting_of plan o

  abbrev g : Tasks
  g = tasks_of plan o

  abbrev IsRun : List Step → Type 0
  IsRun steps = IsGreedy g steps × HaveStatus steps (λ t. (effect_at s t).status)

  -- what was to run and is reported has ended, and nothing else has
  ended_is : (steps : List Step) → IsRun steps → (t : ℕ) → ended steps t ≡ (g.to_run t && is_reported g steps t)
  ended_is steps run t = starts.ends g steps t run.0 ∙ starts.reported g steps t run.0

  module _ (one other : List Step) (first : IsRun one) (second : IsRun other) where
    same_reported : (t : ℕ) → t < length plan.listing.parts → is_reported g one t ≡ is_reported g other t
    same_reported =
        reports g (λ t. (effect_at s t).status) one other going valid.wide valid.ordered.lower first.0 second.0 first.1 second.1

    same_ended : (t : ℕ) → t < length plan.listing.parts → ended one t ≡ ended other t
    same_ended t below =
        ended_is one first t ∙ ap (λ b. g.to_run t && b) (same_reported t below) ∙ sym (ended_is other second t)

    -- with the same notes
    one_page : (a b : ℕ → Note) → ((t : ℕ) → t < length plan.listing.parts → a t ≡ b t)
        → page plan s a (is_reported g one) ≡ page plan s b (is_reported g other)
    one_page a b alike =
        page_noted plan s a b (is_reported g one) alike ∙ page-agree plan s b (is_reported g one) (is_reported g other) same_reported

    pub pages : (notes others : ℕ → Note) (room left : ℕ) → ((t : ℕ) → NotedAs plan s room t (ended one t) (notes t))
        → ((t : ℕ) → NotedAs plan s left t (ended other t) (others t)) → AreOnePage plan s notes others (is_reported g one) (is_reported g other)
    pages notes others room left noted noted_other = record {
      but_for_full = one_page (λ t. with_room (notes t)) (λ t. with_room (others t)) one_note;
      equal = λ none none_other.
          one_page notes others (λ t below. sym (not_full (notes t) (none t below)) ∙ one_note t below ∙ not_full (others t) (none_other t below));
    }
      where
        one_note : (t : ℕ) → t < length plan.listing.parts → with_room (notes t) ≡ with_room (others t)
        one_note t below =
            noted_one plan s room left t (ended one t) (ended other t) (notes t) (others t) (same_ended t below) (noted t) (noted_other t)

pub page_law : ReportedLaw → StartsLaw → PageLaw
page_law reports starts plan o one other notes others room left valid going greedy greedy_other status status_other noted noted_other =
    pages reports starts plan o valid going one other (greedy, status) (greedy_other, status_other) notes others room left noted noted_other
