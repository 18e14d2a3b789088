-- What reading answers: one value, or the first fault.
use Rattle.std.specs.Prelude.{◌≡◌, ◌⊎◌, Option, None, Some, Result, Ok, Err, MatchResult}
use Rattle.turbo_config.specs.declared.error.ConfigErr.{ConfigErr}
use Rattle.turbo_config.specs.declared.error.ConfigErr.TheVariants.{OutOfMemory}

-- one step of reading, and the next one on its value
infixl 10 ◌>>=◌
abbrev pub ◌>>=◌ : {A B : Type 0} → Result A ConfigErr → (A → Result B ConfigErr) → Result B ConfigErr
Ok a >>= next = next a
Err e >>= next = Err e

-- the fault, or what follows where there is none
abbrev pub unless : {A : Type 0} → Option ConfigErr → Result A ConfigErr → Result A ConfigErr
unless None rest = rest
unless (Some fault) rest = Err fault

-- what is there, or else the fault
abbrev pub or_fault : {A : Type 0} → ConfigErr → Option A → Result A ConfigErr
or_fault fault None = Err fault
or_fault fault (Some a) = Ok a

-- a call answers what is meant; want of memory may come at any time
abbrev pub Reads : {A : Type 0} → Result A ConfigErr → Result A ConfigErr → Type 0
Reads meant result = MatchResult result (λ a. meant ≡ Ok a) (λ e. (e ≡ OutOfMemory) ⊎ (meant ≡ Err e))

-- the same, where the answer is seen as a value
abbrev pub ReadsAs : {A B : Type 0} → (A → B) → Result B ConfigErr → Result A ConfigErr → Type 0
ReadsAs seen meant result = MatchResult result (λ a. meant ≡ Ok (seen a)) (λ e. (e ≡ OutOfMemory) ⊎ (meant ≡ Err e))

-- the same, where the answer is what the call leaves in the place of an older value
abbrev pub ReadsInto : {A B : Type 0} → Result A ConfigErr → Result B ConfigErr → A → Type 0
ReadsInto meant result new = MatchResult result (λ _. meant ≡ Ok new) (λ e. (e ≡ OutOfMemory) ⊎ (meant ≡ Err e))

-- a test answers the fault; want of memory may come at any time
abbrev pub Passes : {A : Type 0} → Option ConfigErr → Result A ConfigErr → Type 0
Passes fault result = MatchResult result (λ _. fault ≡ None) (λ e. (e ≡ OutOfMemory) ⊎ (fault ≡ Some e))
