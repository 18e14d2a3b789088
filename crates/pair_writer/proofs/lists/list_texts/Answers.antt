use Rattle.std.proofs.Common.{ℕ, ◌-◌, ◌+◌, List, [], ◌∷◌, ◌++◌, map, refl, sym, ap, ◌∙◌, arith}
use denote.Bor.{Bor}
use Rattle.std.proofs.lemmas.List.{map-append}
use Rattle.codes.specs.Reading.{items_step}
use Rattle.pair_frames.specs.Runs.{NamedBytes}
use Rattle.pair_writer.specs.FileTexts.{texts_read}
use Rattle.pair_writer.proofs.Files.{read_named, read_some, items_none}
use Rattle.pair_writer.proofs.lists.list_texts.Goals as goal

abbrev seen : List (Bor (List ℕ)) → List (List ℕ)
seen texts = map (λ (text : Bor (List ℕ)). text.now) texts

pub returns-in_default-file_at : goal.returns-in_default-file_at
returns-in_default-file_at c =
    let (files, is, same) = c.loop-i.invariant.found in
    let none = items_none (c.in-Some.count - c.loop-i.i) files c.loop-i.rest.now (omega (arith, c.loop-i-test.true)) c.in_default-file_at.ensures in
    ap seen c.new.ensures.items ∙ sym (ap texts_read (is ∙ none))

pub loop-i-preserved : goal.loop-i-preserved
loop-i-preserved c =
    let (files, is, same) = c.loop-i.invariant.found in
    let n = c.in-Some.count in
    let i = c.loop-i.i in
    let rest = c.loop-i.rest.now in
    let more = c.in-Some-file_at.more.now in
    let text = c.in-Some-file_at.text in
    let (x, at, text_is) = read_some (read_named rest) text.now more c.in-Some-file_at.ensures in
    let own = λ (file : NamedBytes). file.1 in
    record {
      found = (
        files ++ x ∷ [],
        is ∙ items_step read_named files (files ++ x ∷ []) (n - i) (n - (i + 1)) rest more x (omega arith) at refl,
        ap seen c.in_ok-push.ensures.items
            ∙ map-append (λ (it : Bor (List ℕ)). it.now) c.loop-i.texts.items (text ∷ [])
            ∙ (λ j. same j ++ sym text_is j ∷ [])
            ∙ sym (map-append own files (x ∷ [])),
      );
    }
