-- What is answered for an accepted value.
use Rattle.std.proofs.Common.{◌≡◌, inl, inr, ℕ, List, [], ◌∷◌, ◌++◌, Some, None, Result, Ok, Err, IfOk, IfErr, sym, ap, ◌∙◌, subst}
use Rattle.std.specs.Str.{IsUtf8}
use Rattle.json.specs.Layout.{pretty}
use Rattle.json.specs.Lex.{tokens}
use Rattle.serde_json.specs.Data.{Data, object}
use Rattle.serde_json.specs.Read.{read}
use Rattle.serde_json.specs.View.{view}
use Rattle.serde_json.specs.Written.{IsInOrder}
use Rattle.json_view.specs.Reading.{reading}
use Rattle.lock_entries.specs.declared.error.LockErr.{LockErr}
use Rattle.lock_entries.specs.declared.error.LockErr.TheVariants.{OutOfMemory}
use Rattle.lock_entries.specs.Errors.{Accepts}
use Rattle.lock_entries.specs.Lockfile.{lock_refusal}
use Rattle.npm_lock.specs.declared.lock.Lock.{Lock}
use Rattle.npm_lock.specs.Reading.{unless, lock_in, lock_of, Reads}
use Rattle.npm_lock.proofs.CutLaws.{accepted_object}
use Rattle.npm_lock.proofs.Printing.{printed_reads}

pub reads_accepted : (bytes : List ℕ) (d : Data) → reading bytes ≡ Some d → (result : Result Lock LockErr) → Accepts (lock_refusal d) (λ lock. view lock ≡ d) result → Reads (lock_of bytes) result
reads_accepted bytes d e (Ok lock) h = ap lock_in e ∙ ap (unless d) h.0 ∙ ap Ok (sym h.1)
reads_accepted bytes d e (Err x) (inl m) = inl m
reads_accepted bytes d e (Err x) (inr r) = inr (ap lock_in e ∙ ap (unless d) r)

pub accepted_only : (d now : Data) → d ≡ now → (result : Result Lock LockErr) → Accepts (lock_refusal d) (λ lock. view lock ≡ d) result → IfOk result (λ lock. view lock ≡ now)
accepted_only d now e (Ok lock) h = h.1 ∙ e
accepted_only d now e (Err x) h = tt

pub refused_never : (d : Data) → lock_refusal d ≡ None → (result : Result Lock LockErr) → Accepts (lock_refusal d) (λ lock. view lock ≡ d) result → IfErr result (λ e. e ≡ OutOfMemory)
refused_never d none (Ok lock) h = tt
refused_never d none (Err x) (inl m) = m
refused_never d none (Err x) (inr r) = absurd (let z : None ≡ Some x = sym none ∙ r in cc)

pub printed_lock : (d : Data) (bytes text : List ℕ) → lock_refusal d ≡ None → bytes ≡ text ++ 10 ∷ [] → text ≡ pretty (tokens text) → IsUtf8 text → IsInOrder text d → read text ≡ Some d → lock_of bytes ≡ Ok d
printed_lock d bytes text ok is layout utf8 order back =
    let o = accepted_object d ok in
    let reads : reading (text ++ 10 ∷ []) ≡ Some (object o.0) = printed_reads text o.0 layout utf8 (subst (IsInOrder text) o.1 order) (back ∙ ap Some o.1) in
    ap lock_of is ∙ ap lock_in (reads ∙ ap Some (sym o.1)) ∙ ap (unless d) ok
