use Rattle.std.proofs.Common.{◌≡◌, ◌<◌, List, [], ℕ, Bool, cond, Some, length, get_or, sym, ◌∙◌, ap, arith}
use Rattle.std.specs.Prelude.{bytes_eq}
use Rattle.std.proofs.lemmas.List.{get_or-map, length-map}
use Rattle.print_index.specs.Digests.{IsLastBelow, NoneBelow}
use denote.Bor.{Bor}
use Rattle.record_log.specs.Kinds.{Entry, blobs_in}
use Rattle.blob_pool.specs.Blobs.{length-contents_of}
use Rattle.blob_pool.specs.Contents.{content_at}
use Rattle.blob_pool.proofs.Search.{smaller, of_some, of_none, looked, ended}
use Rattle.pair_writer.specs.Contents.{digests_in}
use Rattle.pair_writer.specs.Staged.{entries}
use Rattle.pair_writer.proofs.staged.Staged.find.Goals as goal
use Rattle.pair_writer.proofs.staged.Staged.find.Goals.{then-eq, else-eq}

pub loop-last-smaller : goal.loop-last-smaller
loop-last-smaller c =
    let digests = digests_in c.args.self.now.contents in
    let digest = c.args.digest.now in
    let number = c.in-Some.number in
    let (limit, x) = c.loop-last.invariant.searched in
    let last = of_some (IsLastBelow digests limit digest) c.loop-last.last number c.in-Some.is x.some in
    smaller digests digest c.before-last.result c.loop-last.last number c.in-Some.is (c.before-last.ensures.greatest digest last.same)

pub loop-last-preserved : goal.loop-last-preserved
loop-last-preserved c =
    let self = c.args.self.now in
    let digests = digests_in self.contents in
    let fs = entries self in
    let bytes = c.args.bytes.now in
    let digest = c.args.digest.now in
    let number = c.in-Some.number in
    let (limit, x) = c.loop-last.invariant.searched in
    let last : IsLastBelow digests limit digest number = of_some (IsLastBelow digests limit digest) c.loop-last.last number c.in-Some.is x.some in
    let below = last.below in
    let few = x.few in
    let same = c.eq.result in
    let held = self.held in
    let inside : number < length self.contents.bytes.items = omega (arith, ap length held.contents_are, ap length held.digests_are, length-contents_of fs, length-map (blobs_in fs) (λ (e : Entry). e.key), length-map self.contents.bytes.items (λ (b : Bor (List ℕ)). b.now)) in
    let at : content_at fs number ≡ c.index.result.now.now =
    ap (λ (l : List (List ℕ)). get_or l number []) (sym held.contents_are)
    ∙ get_or-map (λ (b : Bor (List ℕ)). b.now) self.contents.bytes.items number c.index.result.now [] inside
    ∙ ap (λ (b : Bor (List ℕ)). b.now) (sym c.index.ensures) in
    let is : same ≡ bytes_eq (content_at fs number) bytes = c.eq.ensures ∙ ap (λ (l : List ℕ). bytes_eq l bytes) (sym at) in
    let seen : c.if-eq.found ≡ cond same (Some number) c.loop-last.found = elim c.if-eq.branch [
      | then-eq w ↦ w.found-is ∙ ap (λ (b : Bool). cond b (Some number) c.loop-last.found) (sym w.if-eq.true)
      | else-eq w ↦ w.found-is ∙ ap (λ (b : Bool). cond b (Some number) c.loop-last.found) (sym w.if-eq.false)
    ] in
    record {
      searched = (
        number,
        record {
          few = omega arith;
          some = c.before-last.ensures.greatest digest last.same;
          none = c.before-last.ensures.none digest last.same;
          first = λ told. seen ∙ looked digests fs held.digests_are digest bytes c.requires limit number c.loop-last.found same few last (x.first tt) is;
        },
      );
    }

pub returns : goal.returns
returns c =
    let digests = digests_in c.args.self.now.contents in
    let (limit, x) = c.loop-last.invariant.searched in
    let none = of_none (NoneBelow digests limit c.args.digest.now) c.loop-last.last c.in_default.is x.none in
    ended digests (entries c.args.self.now) c.args.self.now.held.digests_are c.args.digest.now c.args.bytes.now c.requires limit c.loop-last.found x.few none (x.first tt)
