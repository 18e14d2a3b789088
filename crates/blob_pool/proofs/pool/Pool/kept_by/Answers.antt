use Rattle.std.proofs.Common.{rules, ◌≡◌, ◌<◌, List, ℕ, Bool, cond, Option, Some, sym, ◌∙◌, ap, arith}
use Rattle.std.specs.Prelude.{bytes_eq}
use Rattle.print_index.specs.Digests.{IsLastBelow, NoneBelow}
use Rattle.codes.specs.Views.{found_as}
use Rattle.record_log.specs.Kinds.{Entry}
use Rattle.blob_pool.specs.declared.pool.BlobId.{BlobId}
use Rattle.blob_pool.specs.Contents.{content_at}
use Rattle.blob_pool.specs.Known.{known_in, count_in, digests_in}
use Rattle.blob_pool.specs.Laws.{reads_log_both, known_read}
use Rattle.blob_pool.proofs.Search.{smaller, of_some, of_none, looked, ended}
use Rattle.blob_pool.proofs.pool.Pool.kept_by.Goals as goal
use Rattle.blob_pool.proofs.pool.Pool.kept_by.Goals.{then-branch, else-branch}

pub loop-last-smaller : goal.loop-last-smaller
loop-last-smaller g c =
    let digests = digests_in c.args.self.now in
    let (limit, x) = c.loop-last.invariant.searched in
    let last = of_some (IsLastBelow digests limit c.args.digest.now) c.loop-last.last c.in-Some.number c.in-Some.is x.some in
    smaller digests c.args.digest.now c.before-last.result c.loop-last.last c.in-Some.number c.in-Some.is (c.before-last.ensures.greatest c.args.digest.now last.same)

pub loop-last-preserved : goal.loop-last-preserved
loop-last-preserved g c =
    let digests = digests_in c.args.self.now in
    let bytes = c.args.bytes.now in
    let digest = c.args.digest.now in
    let number = c.in-Some.number in
    let (limit, x) = c.loop-last.invariant.searched in
    let last : IsLastBelow digests limit digest number = of_some (IsLastBelow digests limit digest) c.loop-last.last number c.in-Some.is x.some in
    let below = last.below in
    let few = x.few in
    let inside : number < count_in c.args.self.now = omega (arith, c.requires.pool.even) in
    let same = c.in_ok-equals.field-0 in
    let view : Option BlobId → Option ℕ = found_as (λ id. id.number) in
    record {
      log = reads_log_both c.args.log.now c.loop-last.log c.equals.new.log c.loop-last.invariant.log c.equals.ensures.log;
      faults = search rules;
      inside = elim c.if-branch.branch [ then-branch w ↦ search rules | else-branch w ↦ search rules ];
      searched = (
        number,
        record {
          few = omega arith;
          some = c.before-last.ensures.greatest digest last.same;
          none = c.before-last.ensures.none digest last.same;
          first = λ told.
              let seen : view c.if-branch.found ≡ cond same (Some number) (view c.loop-last.found) = elim c.if-branch.branch [
                | then-branch w ↦ ap view w.found-is ∙ ap (λ (b : Bool). cond b (Some number) (view c.loop-last.found)) (sym w.if-branch.true)
                | else-branch w ↦ ap view w.found-is ∙ ap (λ (b : Bool). cond b (Some number) (view c.loop-last.found)) (sym w.if-branch.false)
              ] in
              let fs = known_in c.args.log.now in
              let is : same ≡ bytes_eq (content_at fs number) bytes =
              c.in_ok-equals.ensures.same told
              ∙ ap (λ (l : List Entry). bytes_eq (content_at l number) bytes) (known_read c.args.log.now c.loop-last.log c.loop-last.invariant.log) in
              seen ∙ looked digests fs (c.requires.pool.told told).digests digest bytes c.requires.digest limit number (view c.loop-last.found) same x.few last (x.first told) is;
        },
      );
    }

pub returns-clause-found : goal.returns-clause-found
returns-clause-found g c told =
    let digests = digests_in c.args.self.now in
    let (limit, x) = c.loop-last.invariant.searched in
    let none = of_none (NoneBelow digests limit c.args.digest.now) c.loop-last.last c.in_default.is x.none in
    ended digests (known_in c.args.log.now) (c.requires.pool.told told).digests c.args.digest.now c.args.bytes.now c.requires.digest limit (found_as (λ id. id.number) c.loop-last.found) x.few none (x.first told)
