use Rattle.std.proofs.Common.{◌≡◌, ◌∙◌, ◌+◌, ◌-◌, ◌≤◌, ◌<◌, List, ℕ, Option, Some, None, length, take, drop, sym, ap, arith, length-drop}
use Rattle.std.proofs.lemmas.List.{drop-take, drop-drop}
use Rattle.std.specs.Prelude.{IfNone, min}
use Rattle.std.proofs.lemmas.Option.{IfSome_then}
use Rattle.record_log.specs.declared.window.Window.{Window}
use Rattle.record_log.specs.Window.{Shows, Covers}
use Rattle.record_log.specs.Seats.{IsFront}
use Rattle.record_log.proofs.window.Window.seat_behind.Goals as goal

-- what is shown from a place on is the front of what the device holds there
shown : (bytes content : List ℕ) (at k n : ℕ) → k ≤ n → bytes ≡ take n (drop at content)
    → drop k bytes ≡ take (n - k) (drop (k + at) content)
shown bytes content at k n le is =
    let parts : n ≡ k + (n - k) = omega (arith, le) in
    ap (drop k) (is ∙ ap (λ (m : ℕ). take m (drop at content)) parts) ∙ drop-take k (n - k) (drop at content) ∙ ap (take (n - k)) (drop-drop k at content ∙ ap (λ (m : ℕ). drop m content) (omega arith))

none_then : {T : Type 0} (o : Option T) (P Q : Type 0) → IfNone o P → (P → Q) → IfNone o Q
none_then None P Q p to = to p
none_then (Some x) P Q p to = tt

-- what is shown behind the gate
head_shown : (window : Window) (content head : List ℕ) (gate len : ℕ)
    → Covers window gate (min 18 (len - gate)) → gate < len
    → head ≡ drop (gate + 1 - window.at) window.bytes.items → Shows content window
    → len ≡ length content → IsFront head content (gate + 1) (len - gate - 1)
head_shown window content head gate len covers inside is shows whole =
    let k = gate + 1 - window.at in
    let at : k + window.at ≡ gate + 1 = omega (arith, covers.from) in
    let n : length (drop k window.bytes.items) ≡ length window.bytes.items - k = length-drop k window.bytes.items in
    let front = shown window.bytes.items content window.at k (length window.bytes.items) (omega (arith, covers.to, inside, at)) shows ∙ (λ i. take (sym n i) (drop (at i) content)) in
    record {
      front = is ∙ front ∙ ap (λ (l : List ℕ). take (length l) (drop (gate + 1) content)) (sym is);
      len = omega (arith, whole, inside);
    }

pub returns-clause-some : goal.returns-clause-some
returns-clause-some c = IfSome_then c.seat_at.result c.seat_at.ensures.some (λ seat laid content shows whole. laid content (head_shown c.args.self.now content c.from.result.now c.args.gate c.args.len c.requires.covers c.requires.gate c.from.ensures shows whole))

pub returns-clause-none : goal.returns-clause-none
returns-clause-none c = none_then c.seat_at.result _ _ c.seat_at.ensures.none (λ none before content shows whole. none before content (head_shown c.args.self.now content c.from.result.now c.args.gate c.args.len c.requires.covers c.requires.gate c.from.ensures shows whole))
