use Rattle.std.proofs.Common.{◌≡◌, ◌≤◌, ◌+◌, List, [], get_or, true, refl, sym, ◌∙◌, ap, subst, arith}
use Rattle.std.proofs.lemmas.Result.{IfOk-weaker}
use Rattle.codes.specs.Views.{found_as}
use Rattle.cache_api.specs.Found.{given}
use Rattle.cache_api.specs.Pairs.{Pair}
use Rattle.cache_api.specs.Reading.{artifact_in}
use Rattle.record_log.specs.Kinds.{Entry}
use Rattle.record_log.specs.Frames.{text_of, all_formed}
use Rattle.record_log.specs.Log.{frames_in as log_frames, probes_of}
use Rattle.blob_pool.specs.Known.{known_in}
use Rattle.blob_pool.specs.Laws.{known_whole}
use Rattle.pair_frames.specs.Pairs.{pairs_in}
use Rattle.artifact_reader.specs.Parts.{shown_in}
use Rattle.pair_reader.specs.Frames.{pair_at, cost_of, reads_of}
use Rattle.pair_reader.specs.Answers.{places_of}
use Rattle.pair_index.specs.Costs.{cost_at}
use Rattle.pair_index.specs.Index.{IsIndexOf}
use Rattle.artifact_store.proofs.Given.{frame_below, holds_there, pair_there, cost_there, no_frame}
use Rattle.artifact_store.proofs.store.Store.given_by.Goals as goal

pub returns-in_default-clause-given : goal.returns-in_default-clause-given
returns-in_default-clause-given g c told lt =
    let store = c.args.self.now in
    let fs = log_frames store.log in
    let x : IsIndexOf store.index fs = subst (IsIndexOf store.index) (known_whole store.log c.requires told) (store.indexed.told told) in
    absurd (no_frame store.index fs x c.args.number (sym c.frame.ensures ∙ c.in_default.is) lt)

pub given-requires-clause-number : goal.given-requires-clause-number
given-requires-clause-number g c =
    let store = c.args.self.now in
    frame_below store.index _ c.args.number c.in-Some.frame store.indexed.below (sym c.frame.ensures ∙ c.in-Some.is)

pub given-requires-clause-pair : goal.given-requires-clause-pair
given-requires-clause-pair g c told =
    let store = c.args.self.now in
    holds_there store.index (known_in store.log) (store.indexed.told told) c.args.number c.in-Some.frame (sym c.frame.ensures ∙ c.in-Some.is)

pub returns-clause-given : goal.returns-clause-given
returns-clause-given g c told lt =
    let store = c.args.self.now in
    let fs = known_in store.log in
    let known : fs ≡ log_frames store.log = known_whole store.log c.requires told in
    let formed : all_formed [] fs ≡ true = ap (all_formed []) known ∙ (store.log.kept c.requires told).rest.formed in
    let there = pair_there store.index fs (store.indexed.told told) c.args.number c.in-Some.frame (sym c.frame.ensures ∙ c.in-Some.is) formed
    ∙ ap (λ (l : List Entry). get_or (pairs_in l) c.args.number ([], [])) known in
    let gives = λ (p : Pair). given artifact_in c.args.key.now c.args.outs.now p in
    let text = text_of (log_frames store.log) in
    IfOk-weaker c.given.result
    (λ o. found_as (shown_in text) o ≡ gives (pair_at fs c.in-Some.frame))
    (λ o. found_as (shown_in text) o ≡ gives (get_or (pairs_in (log_frames store.log)) c.args.number ([], [])))
    (λ o is. is ∙ ap gives there)
    (c.given.ensures.given told)

pub returns-clause-few : goal.returns-clause-few
returns-clause-few g c told lt =
    let store = c.args.self.now in
    let known = known_whole store.log c.requires told in
    let same = cost_there store.index (known_in store.log) (store.indexed.told told) c.args.number c.in-Some.frame (sym c.frame.ensures ∙ c.in-Some.is) reads_of in
    omega (arith, c.given.ensures.few told, same, ap (λ (l : List Entry). cost_at reads_of l c.args.number) known)

pub returns-clause-most : goal.returns-clause-most
returns-clause-most g c told lt =
    let store = c.args.self.now in
    let known = known_whole store.log c.requires told in
    let same = cost_there store.index (known_in store.log) (store.indexed.told told) c.args.number c.in-Some.frame (sym c.frame.ensures ∙ c.in-Some.is) cost_of in
    omega (arith, c.given.ensures.most told, same, ap (λ (l : List Entry). cost_at cost_of l c.args.number) known)

pub returns-clause-cost : goal.returns-clause-cost
returns-clause-cost g c told lt =
    let store = c.args.self.now in
    let known = known_whole store.log c.requires told in
    let same = cost_there store.index (known_in store.log) (store.indexed.told told) c.args.number c.in-Some.frame (sym c.frame.ensures ∙ c.in-Some.is) cost_of
    ∙ refl in
    let now = ap (λ (l : List Entry). cost_at cost_of l c.args.number) known in
    IfOk-weaker c.given.result
    (λ o. probes_of c.given.new.log + places_of o ≤ probes_of store.log + cost_of (known_in store.log) c.in-Some.frame)
    (λ o. probes_of c.given.new.log + places_of o ≤ probes_of store.log + cost_at cost_of (log_frames store.log) c.args.number)
    (λ o le. omega (arith, le, same, now))
    (c.given.ensures.cost told)
