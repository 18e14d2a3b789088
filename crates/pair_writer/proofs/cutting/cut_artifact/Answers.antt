use Rattle.std.proofs.Common.{rules, ◌≡◌, ℕ, ◌+◌, ◌<◌, List, [], ◌∷◌, ◌++◌, length, map, take, get_or, refl, ap, sym, subst, ◌∙◌, arith}
use Rattle.std.proofs.lemmas.List.{map-append, take_all}
use Rattle.rel_path.proofs.Parts.{turn}
use Rattle.sha2.specs.Sha256.{sha256}
use Rattle.codes.specs.Codes.{word, str, IsShort, AreBoth}
use Rattle.listing.specs.KeyText.{path_text, PathFits}
use Rattle.listing.proofs.Writing.{each_more}
use Rattle.cache_api.specs.Artifacts.{File}
use Rattle.blob_pool.specs.Known.{known_in}
use Rattle.blob_pool.specs.Laws.{reads_log_none, reads_log_both, known_read, knows_read}
use Rattle.pair_frames.specs.Runs.{NamedBytes, file_runs, named_file}
use Rattle.pair_frames.specs.Runs.Run.{Plain}
use Rattle.pair_writer.specs.Cuts.{IsCut}
use Rattle.pair_writer.proofs.Adding.{adds_none}
use Rattle.pair_writer.proofs.Cuts.{bytes_both, bytes_none, str_bytes, word_bytes, cut_plain, cut_both, cut_next}
use Rattle.pair_writer.proofs.FileTexts.{file_digest}
use Rattle.pair_writer.proofs.Paths.{names_of}
use Rattle.pair_writer.proofs.cutting.cut_artifact.Goals as goal

pub loop-place-init : goal.loop-place-init
loop-place-init g c =
    let tells = g.S.StoreDevice.tells in
    let log = c.args.log.now in
    let fs = known_in log in
    let s = c.args.staged.now in
    let p = c.args.pieces.now in
    let q = c.head.new.self in
    let text = c.as_slice.result.now in
    let n = length c.as_slice-files.result.now in
    let fits = bytes_both (str text) (word n) (str_bytes text c.head.ensures.bytes) (word_bytes n) in
    record {
      log = reads_log_none log;
      faults = refl;
      cut = subst (λ (l : List ℕ). IsCut tells fs s s p q (Plain (str l ++ word n) ∷ [])) c.as_slice.ensures
          (cut_plain tells fs s p q (str text ++ word n) fits c.in_ok-head.ensures.added);
      each = tt;
    }

-- one file more
more : (all : List File) (n : ℕ) (file : File) (name bytes : List ℕ)
    → (n < length all) × (file ≡ get_or all n file) → name ≡ path_text file.0 → bytes ≡ file.1
    → map named_file (take n all) ++ (name, bytes) ∷ [] ≡ map named_file (take (n + 1) all)
more all n file name bytes at name_is bytes_is =
    (λ i. map named_file (take n all) ++ (name_is i, bytes_is i) ∷ [])
    ∙ sym (map-append named_file (take n all) (file ∷ []))
    ∙ ap (map named_file) (sym (turn all n file at).0)

pub loop-place-preserved : goal.loop-place-preserved
loop-place-preserved g c =
    let tells = g.S.StoreDevice.tells in
    let log = c.args.log.now in
    let mid = c.loop-place.log in
    let reads = c.loop-place.invariant.log in
    let all = c.as_slice-files.result.now in
    let n = c.loop-place.place in
    let file = c.index-files-place.result in
    let at : (n < length all) × (file ≡ get_or all n file) = (c.loop-place-test.true, c.index-files-place.is) in
    let name = c.as_bytes-name.result.now in
    let bytes = c.as_slice-bytes.result.now in
    let name_is : name ≡ path_text file.0 = c.as_bytes-name.ensures.value ∙ c.as_str.ensures ∙ c.in_ok-name.ensures.value in
    let bytes_is : bytes ≡ file.1 = c.as_slice-bytes.ensures in
    let head = str c.args.artifact.now.log ++ word (length all) in
    let cut = cut_next tells (known_in log) (known_in mid) c.args.staged.now c.loop-place.staged c.cut_named.new.staged c.args.pieces.now c.loop-place.pieces c.cut_named.new.pieces head (map named_file (take n all)) name bytes (known_read log mid reads) c.loop-place.invariant.cut c.in_ok-cut_named.ensures.cut in
    let short = c.in_ok-cut_named.ensures.short in
    let fits : AreBoth PathFits IsShort file = record {
      first = record {
        text = subst (λ (l : List ℕ). IsShort l) name_is short.0;
        names = names_of file.0 c.in_ok-name.name c.in_ok-name.ensures.back;
      };
      second = subst (λ (l : List ℕ). IsShort l) bytes_is short.1;
    } in
    record {
      log = reads_log_both log mid c.cut_named.new.log reads c.in_ok-cut_named.ensures.log;
      faults = search rules;
      cut = subst (λ (l : List NamedBytes). IsCut tells (known_in log) c.args.staged.now c.cut_named.new.staged c.args.pieces.now c.cut_named.new.pieces (Plain head ∷ file_runs l)) (more all n file name bytes at name_is bytes_is) cut;
      each = each_more (AreBoth PathFits IsShort) all n file at c.loop-place.invariant.each fits;
    }

pub returns-in_err-cut_named-clause-log : goal.returns-in_err-cut_named-clause-log
returns-in_err-cut_named-clause-log g c =
    reads_log_both c.args.log.now c.loop-place.log c.cut_named.new.log c.loop-place.invariant.log c.cut_named.ensures.log

pub returns-clause-cut : goal.returns-clause-cut
returns-clause-cut g c =
    let tells = g.S.StoreDevice.tells in
    let fs = known_in c.args.log.now in
    let all = c.as_slice-files.result.now in
    let log = c.args.artifact.now.log in
    let s = c.args.staged.now in
    let t = c.loop-place.staged in
    let p = c.args.pieces.now in
    let q = c.loop-place.pieces in
    let n = c.loop-place.place in
    let whole : take n all ≡ all = take_all n all (omega arith) in
    let cut : IsCut tells fs s t p q (Plain (str log ++ word (length all)) ∷ file_runs (map named_file all)) =
    subst (λ (l : List File). IsCut tells fs s t p q (Plain (str log ++ word (length all)) ∷ file_runs (map named_file l))) whole c.loop-place.invariant.cut in
    let both =
    cut_both tells fs s t t p q q (Plain (str log ++ word (length all)) ∷ file_runs (map named_file all)) (Plain [] ∷ []) cut
    (cut_plain tells fs t q q [] bytes_none (adds_none q)) in
    subst (λ (l : List File). IsCut tells fs s t p q (Plain (str log ++ word (length l)) ∷ (file_runs (map named_file l) ++ Plain [] ∷ []))) c.as_slice-files.ensures both

pub cut_named-requires-clause-pool : goal.cut_named-requires-clause-pool
cut_named-requires-clause-pool g c =
    knows_read c.args.pool.now c.args.log.now c.loop-place.log c.requires.pool c.loop-place.invariant.log

pub bounds-digests-place : goal.bounds-digests-place
bounds-digests-place g c =
    let all = c.as_slice-files.result.now in
    let n = c.loop-place.place in
    let file = c.index-files-place.result in
    let at : (n < length all) × (file ≡ get_or all n file) = (c.loop-place-test.true, c.index-files-place.is) in
    (file_digest sha256 all c.args.artifact.now.files n file c.args.digests.now at c.as_slice-files.ensures c.requires.digests).inside

pub cut_named-requires-clause-digest : goal.cut_named-requires-clause-digest
cut_named-requires-clause-digest g c =
    let all = c.as_slice-files.result.now in
    let n = c.loop-place.place in
    let file = c.index-files-place.result in
    let at : (n < length all) × (file ≡ get_or all n file) = (c.loop-place-test.true, c.index-files-place.is) in
    (file_digest sha256 all c.args.artifact.now.files n file c.args.digests.now at c.as_slice-files.ensures c.requires.digests).is []
    ∙ ap sha256 (sym c.as_slice-bytes.ensures)
