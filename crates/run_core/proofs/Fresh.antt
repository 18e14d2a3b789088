-- The tables of a scheduler at first.
use Rattle.std.proofs.Common.{◌≡◌, ℕ, zero, suc, ◌<◌, ◌==◌, Bool, true, false, ◌&&◌, nat_lt, List, [], map, length, replicate, get_or, refl, sym, ap, ◌∙◌}
use mathlib.Core.Path.{fun_ext}
use Rattle.std.proofs.lemmas.List.{length-map}
use Rattle.std.proofs.lemmas.Bool.{false≢true}
use Rattle.run_core.specs.declared.states.Mode.{Mode}
use Rattle.run_core.specs.declared.states.State.{State}
use Rattle.run_core.specs.declared.states.State.TheVariants.{Waiting}
use Rattle.run_core.specs.Greedy.{AreLower}
use Rattle.run_core.specs.Machine.{is_well, runs, has_failed}
use Rattle.run_core.specs.Core.{rules_in, states_in}
use Rattle.run_core.specs.Sets.{has}
use Rattle.run_core.specs.Tables.{is_in, count_at, list_at, is_left, Agree}
use Rattle.run_core.proofs.Any.{get_or-map}
use Rattle.run_core.proofs.Members.{member-all}
use Rattle.run_core.proofs.Moved.{missing-all, none-count}

waiting-at : (n t : ℕ) → get_or (replicate n Waiting) t Waiting ≡ Waiting
waiting-at zero t = refl
waiting-at (suc n) zero = refl
waiting-at (suc n) (suc t) = waiting-at n t

pub all-waiting : (states : List State) (n : ℕ) → states ≡ replicate n Waiting → states_in states ≡ (λ t. Waiting)
all-waiting states n e = ap states_in e ∙ fun_ext (waiting-at n)

pub lower-members : (deps : List (List ℕ)) (width : ℕ) (mode : Mode) → AreLower (rules_in deps width mode) → (t d : ℕ) → is_in d (list_at deps t) ≡ true → d < t
lower-members deps width mode low t d h = member-all (λ x. x < t) (list_at deps t) d (low t) h

pub fresh : (deps : List (List ℕ)) (width : ℕ) (mode : Mode) (unmet : List ℕ) (ready missed : List Bool) → unmet ≡ map length deps
    → ((t : ℕ) → has ready t ≡ (nat_lt t (length unmet) && (count_at unmet t == 0))) → ((t : ℕ) → has missed t ≡ false)
    → Agree (rules_in deps width mode) (λ t. Waiting) unmet ready missed 0 false
fresh deps width mode unmet ready missed counted readies none = record {
  counts = λ t. ap (λ ns. count_at ns t) counted ∙ get_or-map length deps t [] ∙ sym (missing-all (λ d. is_well mode Waiting) (λ d. refl) (list_at deps t));
  readies = λ t. readies t ∙ ap (λ n. nat_lt t n && (count_at unmet t == 0)) (ap length counted ∙ length-map deps length);
  misses = none;
  commands = sym (none-count (λ t. runs Waiting) (length deps) (λ t. refl));
  failures = sym (ap (nat_lt 0) (none-count (λ t. has_failed Waiting) (length deps) (λ t. refl)));
  calm = λ t a h known. absurd (false≢true known);
  closed = λ v u h e. absurd (false≢true (ap is_left e));
}
