use Rattle.std.proofs.Common.{◌≡◌, ◌++◌, List, map, sym, ◌∙◌, ap}
use Rattle.cache_api.specs.Keys.{new_pairs}
use Rattle.cache_api.specs.Pairs.{Pair, chosen}
use Rattle.record_log.specs.Kinds.{Entry}
use Rattle.pair_frames.specs.Pairs.{pairs_in}
use Rattle.pair_frames.specs.Puts.{fit, added}
use Rattle.pair_frames.specs.Laws.{AllPut}
use Rattle.pair_frames.proofs.Several.{several_pairs}
use Rattle.pair_writer.specs.Putting.{put_of}
use Rattle.pair_writer.specs.Staged.{entries}
use Rattle.artifact_store.specs.Store.{frames_of, state_of, stores}
use Rattle.artifact_store.proofs.Both.{both_ok, all_ok}
use Rattle.artifact_store.specs.Fits.{texts_put, outcomes_fit, kept_chosen}
use Rattle.artifact_store.proofs.store.Store.stage.Goals as goal

pub returns-clause-puts : goal.returns-clause-puts
returns-clause-puts g c told =
    let store = c.args.self.now in
    let fs = frames_of store in
    let news = new_pairs c.args.pairs.now in
    let room = (state_of store).room in
    let rooms : c.room-room.result ≡ room = c.room-room.ensures.room in
    both_ok c.stage_all.result (AllPut c.room-room.result fs news)
    (λ r. r.1 ≡ map put_of (fit c.room-room.result fs news))
    (λ r. r.1 ≡ stores store news)
    (λ all r is. is ∙ ap (λ n. map put_of (fit n fs news)) rooms
    ∙ sym (outcomes_fit room fs news (texts_put news c.room-room.result fs all)))
    (c.stage_all.ensures.sound told) (c.stage_all.ensures.puts told)

pub returns-clause-pairs : goal.returns-clause-pairs
returns-clause-pairs g c told =
    let store = c.args.self.now in
    let fs = frames_of store in
    let news = new_pairs c.args.pairs.now in
    let room = c.room-room.result in
    both_ok c.stage_all.result (AllPut room fs news)
    (λ r. (entries r.0 ≡ added room fs news) × (r.1 ≡ map put_of (fit room fs news)))
    (λ r. pairs_in (fs ++ entries r.0) ≡ pairs_in fs ++ chosen news r.1)
    (λ all r is. ap (λ (l : List Entry). pairs_in (fs ++ l)) is.0 ∙ several_pairs news room fs all
    ∙ ap (λ (l : List Pair). pairs_in fs ++ l) (kept_chosen (fit room fs news) news ∙ ap (chosen news) (sym is.1)))
    (c.stage_all.ensures.sound told)
    (all_ok c.stage_all.result (λ r. entries r.0 ≡ added room fs news) (λ r. r.1 ≡ map put_of (fit room fs news))
    (c.stage_all.ensures.staged told) (c.stage_all.ensures.puts told))
