use Rattle.std.proofs.Common.{rules, ◌≡◌, ℕ, ◌∷◌, ◌++◌, [], List, refl, sym, subst, ap, ◌∙◌, arith}
use denote.Bor.{Bor}
use Rattle.sha2.specs.Sha256.{sha256}
use Rattle.codes.specs.Codes.{AreBytes, word, read_word, read_str}
use Rattle.blob_pool.specs.Known.{known_in}
use Rattle.blob_pool.specs.Laws.{reads_log_none, reads_log_both, known_read, knows_read}
use Rattle.pair_frames.specs.Runs.{file_runs, key_magic}
use Rattle.pair_frames.specs.Runs.Run.{Plain}
use Rattle.pair_writer.specs.Cuts.{IsCut}
use Rattle.pair_writer.specs.Lists.{is_taken}
use Rattle.pair_writer.proofs.Cuts.{bytes_both, word_bytes, cut_plain, cut_both, cut_next, adds_two}
use Rattle.pair_writer.proofs.Files.{count_there, magic_there, name_there, bytes_there, listed_none, listed_next, listed_runs, took_is, some_of}
use Rattle.pair_writer.proofs.FileTexts.{member_digest}
use Rattle.pair_writer.proofs.cutting.cut_list.Goals as goal

abbrev Word : Type 0
Word = ℕ × Bor (List ℕ)

abbrev Text : Type 0
Text = Bor (List ℕ) × Bor (List ℕ)

abbrev word_in : Word → ℕ
word_in p = p.0

abbrev behind_word : Word → List ℕ
behind_word p = p.1.now

abbrev text_in : Text → List ℕ
text_in p = p.0.now

abbrev behind_text : Text → List ℕ
behind_text p = p.1.now

pub unwrap-count-requires : goal.unwrap-count-requires
unwrap-count-requires g c =
    let there = ap (λ (l : List ℕ). is_taken (read_word l)) c.split_at.ensures.back ∙ count_there c.args.key.now c.requires.list in
    some_of word_in behind_word c.word_at.result (read_word c.split_at.result.1.now) c.word_at.ensures there

pub loop-i-init : goal.loop-i-init
loop-i-init g c =
    let tells = g.S.StoreDevice.tells in
    let log = c.args.log.now in
    let key = c.args.key.now in
    let s = c.args.staged.now in
    let p = c.args.pieces.now in
    let q = c.plain.new.self in
    let r = c.word.new.self in
    let n = c.unwrap-count.result.0 in
    let first = c.unwrap-count.result.1.now in
    let magic = c.split_at.result.0.now in
    let magic_is : magic ≡ key_magic = c.split_at.ensures.front ∙ magic_there key c.requires.list in
    let at = ap read_word (sym c.split_at.ensures.back) ∙ took_is word_in behind_word c.word_at.result c.unwrap-count.result (read_word c.split_at.result.1.now) c.word_at.ensures c.unwrap-count.ensures in
    let added = adds_two p q r magic (word n) key_magic c.in_ok-plain.ensures.added c.in_ok-word.ensures magic_is in
    let fits = bytes_both key_magic (word n) (subst AreBytes magic_is c.in_ok-plain.ensures.bytes) (word_bytes n) in
    record {
      log = reads_log_none log;
      faults = refl;
      found = ([], listed_none key n first at, cut_plain tells (known_in log) s p r (key_magic ++ word n) fits added);
    }

pub unwrap-requires : goal.unwrap-requires
unwrap-requires g c =
    let (files, listed, cut) = c.loop-i.invariant.found in
    let rest = c.loop-i.rest.now in
    some_of text_in behind_text c.str_at.result (read_str rest) c.str_at.ensures
    (name_there c.args.key.now c.unwrap-count.result.0 c.loop-i.i rest files c.requires.list listed c.loop-i-test.true)

pub unwrap-requires-in-loop-i : goal.unwrap-requires-in-loop-i
unwrap-requires-in-loop-i g c =
    let (files, listed, cut) = c.loop-i.invariant.found in
    let rest = c.loop-i.rest.now in
    let first = took_is text_in behind_text c.str_at.result c.unwrap.result (read_str rest) c.str_at.ensures c.unwrap.ensures in
    some_of text_in behind_text c.str_at-in-loop-i.result (read_str c.unwrap.result.1.now) c.str_at-in-loop-i.ensures
    (bytes_there c.args.key.now c.unwrap-count.result.0 c.loop-i.i rest c.unwrap.result.0.now c.unwrap.result.1.now files c.requires.list listed c.loop-i-test.true first)

pub loop-i-preserved : goal.loop-i-preserved
loop-i-preserved g c =
    let tells = g.S.StoreDevice.tells in
    let log = c.args.log.now in
    let mid = c.loop-i.log in
    let reads = c.loop-i.invariant.log in
    let (files, listed, cut) = c.loop-i.invariant.found in
    let rest = c.loop-i.rest.now in
    let n = c.unwrap-count.result.0 in
    let name = c.unwrap.result.0.now in
    let behind = c.unwrap.result.1.now in
    let bytes = c.unwrap-in-loop-i.result.0.now in
    let more = c.unwrap-in-loop-i.result.1.now in
    let first = took_is text_in behind_text c.str_at.result c.unwrap.result (read_str rest) c.str_at.ensures c.unwrap.ensures in
    let second = took_is text_in behind_text c.str_at-in-loop-i.result c.unwrap-in-loop-i.result (read_str behind) c.str_at-in-loop-i.ensures c.unwrap-in-loop-i.ensures in
    record {
      log = reads_log_both log mid c.cut_named.new.log reads c.in_ok-cut_named.ensures.log;
      faults = search rules;
      found = (
        files ++ (name, bytes) ∷ [],
        listed_next c.args.key.now n c.loop-i.i rest name behind bytes more files listed c.loop-i-test.true first second,
        cut_next tells (known_in log) (known_in mid) c.args.staged.now c.loop-i.staged c.cut_named.new.staged c.args.pieces.now c.loop-i.pieces c.cut_named.new.pieces (key_magic ++ word n) files name bytes (known_read log mid reads) cut c.in_ok-cut_named.ensures.cut,
      );
    }

pub returns-in_err-cut_named-clause-log : goal.returns-in_err-cut_named-clause-log
returns-in_err-cut_named-clause-log g c =
    reads_log_both c.args.log.now c.loop-i.log c.cut_named.new.log c.loop-i.invariant.log c.cut_named.ensures.log

pub returns-clause-cut : goal.returns-clause-cut
returns-clause-cut g c =
    let tells = g.S.StoreDevice.tells in
    let fs = known_in c.args.log.now in
    let s = c.args.staged.now in
    let t = c.loop-i.staged in
    let p = c.args.pieces.now in
    let q = c.loop-i.pieces in
    let r = c.plain-2.new.self in
    let (files, listed, cut) = c.loop-i.invariant.found in
    let rest = c.loop-i.rest.now in
    let n = c.unwrap-count.result.0 in
    let key = c.args.key.now in
    let all : c.loop-i.i ≡ n = omega (arith, c.loop-i.auto.i-end) in
    subst (IsCut tells fs s t p r) (sym (listed_runs key n c.loop-i.i rest files c.requires.list listed all))
    (cut_both tells fs s t t p q r (Plain (key_magic ++ word n) ∷ file_runs files) (Plain rest ∷ []) cut
    (cut_plain tells fs t q r rest c.in_ok-plain-2.ensures.bytes c.in_ok-plain-2.ensures.added))

pub cut_named-requires-clause-pool : goal.cut_named-requires-clause-pool
cut_named-requires-clause-pool g c =
    knows_read c.args.pool.now c.args.log.now c.loop-i.log c.requires.pool c.loop-i.invariant.log

pub bounds-digests-i : goal.bounds-digests-i
bounds-digests-i g c =
    let (files, listed, cut) = c.loop-i.invariant.found in
    let rest = c.loop-i.rest.now in
    let behind = c.unwrap.result.1.now in
    let first = took_is text_in behind_text c.str_at.result c.unwrap.result (read_str rest) c.str_at.ensures c.unwrap.ensures in
    let second = took_is text_in behind_text c.str_at-in-loop-i.result c.unwrap-in-loop-i.result (read_str behind) c.str_at-in-loop-i.ensures c.unwrap-in-loop-i.ensures in
    (member_digest sha256 c.args.key.now c.unwrap-count.result.0 c.loop-i.i rest c.unwrap.result.0.now behind c.unwrap-in-loop-i.result.0.now c.unwrap-in-loop-i.result.1.now files c.args.digests.now c.requires.list listed c.loop-i-test.true first second c.requires.digests).inside

pub cut_named-requires-clause-digest : goal.cut_named-requires-clause-digest
cut_named-requires-clause-digest g c =
    let (files, listed, cut) = c.loop-i.invariant.found in
    let rest = c.loop-i.rest.now in
    let behind = c.unwrap.result.1.now in
    let first = took_is text_in behind_text c.str_at.result c.unwrap.result (read_str rest) c.str_at.ensures c.unwrap.ensures in
    let second = took_is text_in behind_text c.str_at-in-loop-i.result c.unwrap-in-loop-i.result (read_str behind) c.str_at-in-loop-i.ensures c.unwrap-in-loop-i.ensures in
    (member_digest sha256 c.args.key.now c.unwrap-count.result.0 c.loop-i.i rest c.unwrap.result.0.now behind c.unwrap-in-loop-i.result.0.now c.unwrap-in-loop-i.result.1.now files c.args.digests.now c.requires.list listed c.loop-i-test.true first second c.requires.digests).is []
