use Rattle.std.proofs.Common.{◌≡◌, Bool, cond, [], ◌∷◌, sym, ap, subst, ◌∙◌, arith}
use Rattle.blob_pool.specs.Known.{known_in}
use Rattle.pair_frames.specs.Runs.{Run, file_run}
use Rattle.pair_frames.specs.Runs.Run.{Plain, Whole}
use Rattle.pair_writer.specs.Cuts.{IsCut}
use Rattle.pair_writer.proofs.Cuts.{cut_plain, cut_whole}
use Rattle.pair_writer.proofs.cutting.cut_file.Goals as goal

pub returns-then-is_content-clause-cut : goal.returns-then-is_content-clause-cut
returns-then-is_content-clause-cut g c =
    let tells = g.S.StoreDevice.tells in
    let fs = known_in c.args.log.now in
    let s = c.args.staged.now in
    let t = c.keep.new.self in
    let p = c.args.pieces.now in
    let q = c.content.new.self in
    let bytes = c.args.bytes.now in
    let is = sym c.is_content.ensures ∙ c.if-is_content.true in
    let run : Whole bytes ≡ file_run bytes = ap (λ (b : Bool). cond b (Whole bytes) (Plain bytes)) (sym is) in
    subst (λ (r : Run). IsCut tells fs s t p q (r ∷ [])) run
    (cut_whole tells fs s t p q bytes c.in_ok-number.number (record {
      content = is;
      fits = λ i. omega (arith, c.type_inv.bytes i);
      grown = c.in_ok-number.ensures.grown;
      frames = c.in_ok-number.ensures.frames;
      number = c.in_ok-number.ensures.number;
      added = c.in_ok-content.ensures;
    }))

pub returns-clause-cut : goal.returns-clause-cut
returns-clause-cut g c =
    let tells = g.S.StoreDevice.tells in
    let fs = known_in c.args.log.now in
    let s = c.args.staged.now in
    let p = c.args.pieces.now in
    let q = c.plain.new.self in
    let bytes = c.args.bytes.now in
    let is = sym c.is_content.ensures ∙ c.if-is_content.false in
    let run : Plain bytes ≡ file_run bytes = ap (λ (b : Bool). cond b (Whole bytes) (Plain bytes)) (sym is) in
    subst (λ (r : Run). IsCut tells fs s s p q (r ∷ [])) run
    (cut_plain tells fs s p q bytes (λ i. omega (arith, c.type_inv.bytes i)) c.in_ok-plain.ensures.added)
