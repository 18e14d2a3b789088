-- What is answered for devices that were not opened.
use Rattle.std.proofs.Common.{◌≡◌, ℕ, List, sym, ◌∙◌, ap, subst}
use Rattle.record_log.specs.Kinds.{generation_of}
use Rattle.record_log.specs.Frames.{frames_of, IsSound, IsOpenedAs}
use Rattle.artifact_store.specs.declared.error.OpenErr.{OpenErr}
use Rattle.artifact_store.specs.declared.error.OpenErr.TheVariants as opening
use Rattle.compact.specs.declared.error.CurrentErr.{CurrentErr}
use Rattle.compact.specs.Answers.{as_spare, IsFirstFault}
use Rattle.compact.specs.Current.{generation_in}
use Rattle.compact.proofs.Telling.{tells_frames, frames_same, opened_reads}

-- the spare was refused behind a first one that is sound
spare_behind : (fault : OpenErr) (bytes : List ℕ) → IsSound bytes → IsFirstFault (as_spare fault) bytes
spare_behind opening.NotAStore bytes sound = sound
spare_behind (opening.Damaged at) bytes sound = sound
spare_behind opening.Failed bytes sound = tt
spare_behind opening.OutOfMemory bytes sound = tt

pub first_sound : (fault : OpenErr) (e : CurrentErr) (old new : List ℕ) → e ≡ as_spare fault
    → IsOpenedAs old new → IsFirstFault e old
first_sound fault e old new is opened =
    subst (λ (x : CurrentErr). IsFirstFault x old) (sym is)
    (spare_behind fault old (tells_frames old (frames_of new) opened.frames).sound)

-- the generation that an opened log tells
pub opened_generation : (old new : List ℕ) (n : ℕ) → IsOpenedAs old new
    → n ≡ generation_of (frames_of new) → n ≡ generation_in old
opened_generation old new n opened is =
    is ∙ ap generation_of (frames_same new old (opened_reads old new opened))
