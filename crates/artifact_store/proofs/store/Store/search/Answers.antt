use Rattle.std.proofs.Common.{◌≡◌, ◌≤◌, ◌+◌, ℕ, Bool, List, Option, Some, None, refl, sym, ◌∙◌, ap, subst, arith}
use Rattle.codes.specs.Views.{found_as}
use Rattle.cache_api.specs.declared.hit.Hit.{Hit}
use Rattle.cache_api.specs.Artifacts.{Artifact}
use Rattle.cache_api.specs.Hits.{span_count}
use Rattle.record_log.specs.Kinds.{Entry}
use Rattle.cache_api.specs.Keys.{text_of}
use Rattle.record_log.specs.Frames.{text_of as frames_text}
use Rattle.record_log.specs.Log.{frames_in as log_frames, probes_of}
use Rattle.blob_pool.specs.Laws.{known_whole, frames_read, reads_log_none}
use Rattle.pair_frames.specs.Pairs.{pairs_in}
use Rattle.artifact_reader.specs.Parts.{shown_in}
use Rattle.pair_reader.specs.Frames as frame
use Rattle.pair_reader.specs.Answers.{places_of}
use Rattle.pair_reader.specs.declared.wanted.Lengths.{Lengths}
use Rattle.pair_index.specs.Keys.{IsKeysOf, is_sought_by_print, number_at, IsBehind}
use Rattle.pair_index.specs.Index.{IsIndexOf}
use Rattle.artifact_store.proofs.Carry.{reads_both}
use Rattle.artifact_store.proofs.Looking.{cost_if, given_if, behind, behind_le, marked_of, IsMarked, IsLooked, begun, inside_at, few_at, most_at, answer_at, next_at, found_none, cost_end, reads_end}
use Rattle.artifact_store.proofs.store.Store.search.Goals as goal

pub loop-last-init : goal.loop-last-init
loop-last-init g c =
    let store = c.args.self.now in
    let keys = store.index.keys in
    let by = c.seeks_print-by_print.result in
    let key = text_of c.args.key.now in
    let last = c.last-last.result in
    record {
      reads = record { log = reads_log_none store.log; index = refl; generation = refl };
      faults = refl;
      marked = marked_of by keys key _ last c.last-last.ensures;
      looked = λ told.
          let fs = log_frames store.log in
          let x : IsKeysOf keys (pairs_in fs) =
          (subst (IsIndexOf store.index) (known_whole store.log c.requires told) (store.indexed.told told)).keys in
          record {
            costs = begun keys fs x by key c.args.outs.now c.args.seen.now (probes_of store.log) frame.cost_of last c.last-last.ensures;
            reads = begun keys fs x by key c.args.outs.now c.args.seen.now (probes_of store.log) frame.reads_of last c.last-last.ensures;
          };
    }

-- what was answered, by its view
seen_as : (hit : Hit) (gs fs : List Entry) → gs ≡ fs → (o : Option Hit) → o ≡ Some hit → (z : Option Artifact)
    → found_as (shown_in (frames_text gs)) o ≡ z → Some (shown_in (frames_text fs) hit) ≡ z
seen_as hit gs fs same o is z e =
    subst (λ (l : List Entry). Some (shown_in (frames_text l) hit) ≡ z) same
    (subst (λ (q : Option Hit). found_as (shown_in (frames_text gs)) q ≡ z) is e)

unseen : (gs : List Entry) (o : Option Hit) → o ≡ None → (z : Option Artifact)
    → found_as (shown_in (frames_text gs)) o ≡ z → None ≡ z
unseen gs o is z e = subst (λ (q : Option Hit). found_as (shown_in (frames_text gs)) q ≡ z) is e

by_text : (lengths : Lengths) {text key : List ℕ} {by : Bool} → by ≡ is_sought_by_print lengths text → text ≡ key
    → by ≡ is_sought_by_print lengths key
by_text lengths is same = is ∙ ap (is_sought_by_print lengths) same

pub returns-in_err-hit-clause-few : goal.returns-in_err-hit-clause-few
returns-in_err-hit-clause-few g c told =
    let store = c.args.self.now in
    let now = c.loop-last.self in
    let keys = store.index.keys in
    let by = c.seeks_print-by_print.result in
    let key = text_of c.args.key.now in
    let outs = c.args.outs.now in
    let seen = c.args.seen.now in
    let start = probes_of store.log in
    let at = c.in-Some.at in
    let reads = c.loop-last.invariant.reads in
    let marked : IsMarked by keys key (Some at) = subst (IsMarked by keys key) c.in-Some.is c.loop-last.invariant.marked in
    let num : c.number-number.result ≡ number_at by keys at =
    c.number-number.ensures ∙ ap (λ i. number_at by i.keys at) reads.index in
    let fs = log_frames store.log in
    let x : IsKeysOf keys (pairs_in fs) =
    (subst (IsIndexOf store.index) (known_whole store.log c.requires told) (store.indexed.told told)).keys in
    let is = by_text keys.lengths c.seeks_print-by_print.ensures c.text.ensures in
    let same = frames_read store.log now.log reads.log in
    let looked = subst (IsLooked keys fs by key outs seen start (probes_of now.log)) c.in-Some.is (c.loop-last.invariant.looked told) in
    let lt = inside_at keys fs x by key outs seen start at marked.0 marked.1 (log_frames now.log) c.number-number.result same num is (probes_of now.log) looked in
    few_at keys fs x by key outs seen start at marked.0 marked.1 (log_frames now.log) c.number-number.result same num is (probes_of now.log) looked (probes_of c.given_if_seen.new.self.log) (c.given_if_seen.ensures.few told lt)

pub returns-in_err-hit-clause-most : goal.returns-in_err-hit-clause-most
returns-in_err-hit-clause-most g c told =
    let store = c.args.self.now in
    let now = c.loop-last.self in
    let keys = store.index.keys in
    let by = c.seeks_print-by_print.result in
    let key = text_of c.args.key.now in
    let outs = c.args.outs.now in
    let seen = c.args.seen.now in
    let start = probes_of store.log in
    let at = c.in-Some.at in
    let reads = c.loop-last.invariant.reads in
    let marked : IsMarked by keys key (Some at) = subst (IsMarked by keys key) c.in-Some.is c.loop-last.invariant.marked in
    let num : c.number-number.result ≡ number_at by keys at =
    c.number-number.ensures ∙ ap (λ i. number_at by i.keys at) reads.index in
    let fs = log_frames store.log in
    let x : IsKeysOf keys (pairs_in fs) =
    (subst (IsIndexOf store.index) (known_whole store.log c.requires told) (store.indexed.told told)).keys in
    let is = by_text keys.lengths c.seeks_print-by_print.ensures c.text.ensures in
    let same = frames_read store.log now.log reads.log in
    let looked = subst (IsLooked keys fs by key outs seen start (probes_of now.log)) c.in-Some.is (c.loop-last.invariant.looked told) in
    let lt = inside_at keys fs x by key outs seen start at marked.0 marked.1 (log_frames now.log) c.number-number.result same num is (probes_of now.log) looked in
    most_at keys fs x by key outs seen start at marked.0 marked.1 (log_frames now.log) c.number-number.result same num is (probes_of now.log) looked (probes_of c.given_if_seen.new.self.log) (c.given_if_seen.ensures.most told lt)

pub returns-in-Some-2-clause-found : goal.returns-in-Some-2-clause-found
returns-in-Some-2-clause-found g c told =
    let store = c.args.self.now in
    let now = c.loop-last.self in
    let keys = store.index.keys in
    let by = c.seeks_print-by_print.result in
    let key = text_of c.args.key.now in
    let outs = c.args.outs.now in
    let seen = c.args.seen.now in
    let start = probes_of store.log in
    let at = c.in-Some.at in
    let reads = c.loop-last.invariant.reads in
    let marked : IsMarked by keys key (Some at) = subst (IsMarked by keys key) c.in-Some.is c.loop-last.invariant.marked in
    let num : c.number-number.result ≡ number_at by keys at =
    c.number-number.ensures ∙ ap (λ i. number_at by i.keys at) reads.index in
    let fs = log_frames store.log in
    let x : IsKeysOf keys (pairs_in fs) =
    (subst (IsIndexOf store.index) (known_whole store.log c.requires told) (store.indexed.told told)).keys in
    let is = by_text keys.lengths c.seeks_print-by_print.ensures c.text.ensures in
    let same = frames_read store.log now.log reads.log in
    let looked = subst (IsLooked keys fs by key outs seen start (probes_of now.log)) c.in-Some.is (c.loop-last.invariant.looked told) in
    let lt = inside_at keys fs x by key outs seen start at marked.0 marked.1 (log_frames now.log) c.number-number.result same num is (probes_of now.log) looked in
    answer_at keys fs x by key outs seen start at marked.0 marked.1 (log_frames now.log) c.number-number.result same num is (probes_of now.log) looked (shown_in (frames_text fs) c.in-Some-2.hit) (seen_as c.in-Some-2.hit (log_frames now.log) fs same c.in_ok-hit.field-0 c.in-Some-2.is _ (c.in_ok-hit.ensures.given told lt) ∙ ap (λ (k : List ℕ). given_if seen k outs (log_frames now.log) c.number-number.result) c.text-in-Some.ensures)

pub returns-in-Some-2-clause-few : goal.returns-in-Some-2-clause-few
returns-in-Some-2-clause-few g c told =
    let store = c.args.self.now in
    let now = c.loop-last.self in
    let keys = store.index.keys in
    let by = c.seeks_print-by_print.result in
    let key = text_of c.args.key.now in
    let outs = c.args.outs.now in
    let seen = c.args.seen.now in
    let start = probes_of store.log in
    let at = c.in-Some.at in
    let reads = c.loop-last.invariant.reads in
    let marked : IsMarked by keys key (Some at) = subst (IsMarked by keys key) c.in-Some.is c.loop-last.invariant.marked in
    let num : c.number-number.result ≡ number_at by keys at =
    c.number-number.ensures ∙ ap (λ i. number_at by i.keys at) reads.index in
    let fs = log_frames store.log in
    let x : IsKeysOf keys (pairs_in fs) =
    (subst (IsIndexOf store.index) (known_whole store.log c.requires told) (store.indexed.told told)).keys in
    let is = by_text keys.lengths c.seeks_print-by_print.ensures c.text.ensures in
    let same = frames_read store.log now.log reads.log in
    let looked = subst (IsLooked keys fs by key outs seen start (probes_of now.log)) c.in-Some.is (c.loop-last.invariant.looked told) in
    let lt = inside_at keys fs x by key outs seen start at marked.0 marked.1 (log_frames now.log) c.number-number.result same num is (probes_of now.log) looked in
    few_at keys fs x by key outs seen start at marked.0 marked.1 (log_frames now.log) c.number-number.result same num is (probes_of now.log) looked (probes_of c.given_if_seen.new.self.log) (c.given_if_seen.ensures.few told lt)

pub returns-in-Some-2-clause-most : goal.returns-in-Some-2-clause-most
returns-in-Some-2-clause-most g c told =
    let store = c.args.self.now in
    let now = c.loop-last.self in
    let keys = store.index.keys in
    let by = c.seeks_print-by_print.result in
    let key = text_of c.args.key.now in
    let outs = c.args.outs.now in
    let seen = c.args.seen.now in
    let start = probes_of store.log in
    let at = c.in-Some.at in
    let reads = c.loop-last.invariant.reads in
    let marked : IsMarked by keys key (Some at) = subst (IsMarked by keys key) c.in-Some.is c.loop-last.invariant.marked in
    let num : c.number-number.result ≡ number_at by keys at =
    c.number-number.ensures ∙ ap (λ i. number_at by i.keys at) reads.index in
    let fs = log_frames store.log in
    let x : IsKeysOf keys (pairs_in fs) =
    (subst (IsIndexOf store.index) (known_whole store.log c.requires told) (store.indexed.told told)).keys in
    let is = by_text keys.lengths c.seeks_print-by_print.ensures c.text.ensures in
    let same = frames_read store.log now.log reads.log in
    let looked = subst (IsLooked keys fs by key outs seen start (probes_of now.log)) c.in-Some.is (c.loop-last.invariant.looked told) in
    let lt = inside_at keys fs x by key outs seen start at marked.0 marked.1 (log_frames now.log) c.number-number.result same num is (probes_of now.log) looked in
    most_at keys fs x by key outs seen start at marked.0 marked.1 (log_frames now.log) c.number-number.result same num is (probes_of now.log) looked (probes_of c.given_if_seen.new.self.log) (c.given_if_seen.ensures.most told lt)

pub returns-in-Some-2-clause-cost : goal.returns-in-Some-2-clause-cost
returns-in-Some-2-clause-cost g c told =
    let store = c.args.self.now in
    let now = c.loop-last.self in
    let keys = store.index.keys in
    let by = c.seeks_print-by_print.result in
    let key = text_of c.args.key.now in
    let outs = c.args.outs.now in
    let seen = c.args.seen.now in
    let start = probes_of store.log in
    let at = c.in-Some.at in
    let reads = c.loop-last.invariant.reads in
    let marked : IsMarked by keys key (Some at) = subst (IsMarked by keys key) c.in-Some.is c.loop-last.invariant.marked in
    let num : c.number-number.result ≡ number_at by keys at =
    c.number-number.ensures ∙ ap (λ i. number_at by i.keys at) reads.index in
    let fs = log_frames store.log in
    let x : IsKeysOf keys (pairs_in fs) =
    (subst (IsIndexOf store.index) (known_whole store.log c.requires told) (store.indexed.told told)).keys in
    let is = by_text keys.lengths c.seeks_print-by_print.ensures c.text.ensures in
    let same = frames_read store.log now.log reads.log in
    let looked = subst (IsLooked keys fs by key outs seen start (probes_of now.log)) c.in-Some.is (c.loop-last.invariant.looked told) in
    let lt = inside_at keys fs x by key outs seen start at marked.0 marked.1 (log_frames now.log) c.number-number.result same num is (probes_of now.log) looked in
    most_at keys fs x by key outs seen start at marked.0 marked.1 (log_frames now.log) c.number-number.result same num is (probes_of now.log) looked (probes_of c.given_if_seen.new.self.log + span_count c.in-Some-2.hit)
    (subst (λ o. probes_of c.given_if_seen.new.self.log + places_of o ≤ probes_of now.log + cost_if seen frame.cost_of (log_frames now.log) c.number-number.result) c.in-Some-2.is (c.in_ok-hit.ensures.cost told lt))

pub loop-last-smaller : goal.loop-last-smaller
loop-last-smaller g c =
    let le = behind_le c.seeks_print-by_print.result c.given_if_seen.new.self.index.keys (text_of c.args.key.now) c.in-Some.at c.before-last.result c.before-last.ensures in
    let was : behind c.loop-last.last ≡ c.in-Some.at + 1 = ap behind c.in-Some.is in
    omega (arith, le, was)

pub loop-last-preserved : goal.loop-last-preserved
loop-last-preserved g c =
    let store = c.args.self.now in
    let now = c.loop-last.self in
    let keys = store.index.keys in
    let by = c.seeks_print-by_print.result in
    let key = text_of c.args.key.now in
    let outs = c.args.outs.now in
    let seen = c.args.seen.now in
    let start = probes_of store.log in
    let at = c.in-Some.at in
    let reads = c.loop-last.invariant.reads in
    let marked : IsMarked by keys key (Some at) = subst (IsMarked by keys key) c.in-Some.is c.loop-last.invariant.marked in
    let num : c.number-number.result ≡ number_at by keys at =
    c.number-number.ensures ∙ ap (λ i. number_at by i.keys at) reads.index in
    let next = c.given_if_seen.new.self in
    let by_call = c.given_if_seen.ensures.reads in
    let last = c.before-last.result in
    let back : IsBehind by keys key at last =
    subst (λ i. IsBehind by i.keys key at last) (by_call.index ∙ reads.index) c.before-last.ensures in
    record {
      reads = reads_both store now next reads by_call;
      faults = c.in_ok-hit.ensures.cause.counted ∙ c.loop-last.invariant.faults;
      marked = marked_of by keys key at last back;
      looked = λ told.
          let fs = log_frames store.log in
          let x : IsKeysOf keys (pairs_in fs) =
          (subst (IsIndexOf store.index) (known_whole store.log c.requires told) (store.indexed.told told)).keys in
          let is = by_text keys.lengths c.seeks_print-by_print.ensures c.text.ensures in
          let same = frames_read store.log now.log reads.log in
          let looked = subst (IsLooked keys fs by key outs seen start (probes_of now.log)) c.in-Some.is (c.loop-last.invariant.looked told) in
          let lt = inside_at keys fs x by key outs seen start at marked.0 marked.1 (log_frames now.log) c.number-number.result same num is (probes_of now.log) looked in
          next_at keys fs x by key outs seen start at marked.0 marked.1 (log_frames now.log) c.number-number.result same num is (probes_of now.log) looked (probes_of next.log) last
          (unseen (log_frames now.log) c.in_ok-hit.field-0 c.in_default-2.is _ (c.in_ok-hit.ensures.given told lt) ∙ ap (λ (k : List ℕ). given_if seen k outs (log_frames now.log) c.number-number.result) c.text-in-Some.ensures) (c.given_if_seen.ensures.most told lt) (c.given_if_seen.ensures.few told lt) back;
    }

pub returns-clause-found : goal.returns-clause-found
returns-clause-found g c told =
    let store = c.args.self.now in
    let keys = store.index.keys in
    let by = c.seeks_print-by_print.result in
    let key = text_of c.args.key.now in
    let outs = c.args.outs.now in
    let seen = c.args.seen.now in
    let start = probes_of store.log in
    let fs = log_frames store.log in
    let x : IsKeysOf keys (pairs_in fs) =
    (subst (IsIndexOf store.index) (known_whole store.log c.requires told) (store.indexed.told told)).keys in
    let is = by_text keys.lengths c.seeks_print-by_print.ensures c.text.ensures in
    let over = subst (IsLooked keys fs by key outs seen start (probes_of c.loop-last.self.log)) c.in_default.is (c.loop-last.invariant.looked told) in
    sym (found_none keys fs x by key outs seen start frame.cost_of (probes_of c.loop-last.self.log) is over.costs)

pub returns-clause-few : goal.returns-clause-few
returns-clause-few g c told =
    let store = c.args.self.now in
    let keys = store.index.keys in
    let by = c.seeks_print-by_print.result in
    let key = text_of c.args.key.now in
    let outs = c.args.outs.now in
    let seen = c.args.seen.now in
    let start = probes_of store.log in
    let fs = log_frames store.log in
    let x : IsKeysOf keys (pairs_in fs) =
    (subst (IsIndexOf store.index) (known_whole store.log c.requires told) (store.indexed.told told)).keys in
    let is = by_text keys.lengths c.seeks_print-by_print.ensures c.text.ensures in
    let over = subst (IsLooked keys fs by key outs seen start (probes_of c.loop-last.self.log)) c.in_default.is (c.loop-last.invariant.looked told) in
    reads_end keys fs x by key outs seen start (probes_of c.loop-last.self.log) is over.reads

pub returns-clause-most : goal.returns-clause-most
returns-clause-most g c told =
    let store = c.args.self.now in
    let keys = store.index.keys in
    let by = c.seeks_print-by_print.result in
    let key = text_of c.args.key.now in
    let outs = c.args.outs.now in
    let seen = c.args.seen.now in
    let start = probes_of store.log in
    let fs = log_frames store.log in
    let x : IsKeysOf keys (pairs_in fs) =
    (subst (IsIndexOf store.index) (known_whole store.log c.requires told) (store.indexed.told told)).keys in
    let is = by_text keys.lengths c.seeks_print-by_print.ensures c.text.ensures in
    let over = subst (IsLooked keys fs by key outs seen start (probes_of c.loop-last.self.log)) c.in_default.is (c.loop-last.invariant.looked told) in
    cost_end keys fs x by key outs seen start (probes_of c.loop-last.self.log) is over.costs

pub returns-clause-cost : goal.returns-clause-cost
returns-clause-cost g c told =
    let store = c.args.self.now in
    let keys = store.index.keys in
    let by = c.seeks_print-by_print.result in
    let key = text_of c.args.key.now in
    let outs = c.args.outs.now in
    let seen = c.args.seen.now in
    let start = probes_of store.log in
    let fs = log_frames store.log in
    let x : IsKeysOf keys (pairs_in fs) =
    (subst (IsIndexOf store.index) (known_whole store.log c.requires told) (store.indexed.told told)).keys in
    let is = by_text keys.lengths c.seeks_print-by_print.ensures c.text.ensures in
    let over = subst (IsLooked keys fs by key outs seen start (probes_of c.loop-last.self.log)) c.in_default.is (c.loop-last.invariant.looked told) in
    omega (arith, cost_end keys fs x by key outs seen start (probes_of c.loop-last.self.log) is over.costs)
