-- Bytes of values, and what is read back from the front of bytes.
use Rattle.std.specs.Prelude.{◌≡◌, ◌<◌, ℕ, zero, suc, ◌^◌, nat_lt, if◌then◌else◌, List, [], ◌∷◌, ◌++◌, length, take, drop, get_or, Option, Some, None}
use Rattle.std.specs.Int.{w32, w64, to_le_bytes, from_le_bytes}

abbrev pub AreBytes : List ℕ → Type 0
AreBytes bytes = (i : ℕ) → get_or bytes i 0 < 256

-- what a reader gives: the value at the front and the rest, or nothing where no value stands there
abbrev pub Taken : Type 0 → Type 0
Taken A = Option (A × List ℕ)

abbrev pub took : {A : Type 0} → A → List ℕ → Taken A
took x rest = Some (x, rest)

-- A reader is the inverse of a code: what is written is read, whatever follows, and what is read was written and fits.
pub record Reads {A : Type 0} (code : A → List ℕ) (Fits : A → Type 0) (read : List ℕ → Taken A) : Type 0 where
  pub again : (x : A) (rest : List ℕ) → Fits x → read (code x ++ rest) ≡ Some (x, rest)
  pub was : (bytes : List ℕ) (x : A) (rest : List ℕ) → AreBytes bytes → read bytes ≡ Some (x, rest) → bytes ≡ code x ++ rest
  pub fits : (bytes : List ℕ) (x : A) (rest : List ℕ) → AreBytes bytes → read bytes ≡ Some (x, rest) → Fits x

-- Where the codes of two values that fit, each followed by any rest, are equal bytes, the values are equal and the
-- rests are equal.
abbrev pub Separates : {A : Type 0} → (A → List ℕ) → (A → Type 0) → Type 0
Separates {A} code Fits = (x y : A) (r s : List ℕ) → Fits x → Fits y → code x ++ r ≡ code y ++ s → (x ≡ y) × (r ≡ s)

-- a reader, and behind it another one that knows the first value
abbrev pub then_read : {A B : Type 0} → Taken A → (A → List ℕ → Taken B) → Taken B
then_read None next = None
then_read (Some p) next = next p.0 p.1

-- a number in four bytes, the least first
unfoldable pub word : ℕ → List ℕ
word n = to_le_bytes w32 n

abbrev pub IsWord : ℕ → Type 0
IsWord n = n < 2 ^ 32

unfoldable pub read_word : List ℕ → Taken ℕ
read_word bytes = if nat_lt (length bytes) 4 then None else Some (from_le_bytes w32 (take 4 bytes), drop 4 bytes)

-- bytes behind their length
unfoldable pub str : List ℕ → List ℕ
str x = word (length x) ++ x

abbrev pub IsShort : {A : Type 0} → List A → Type 0
IsShort x = length x < 2 ^ 32

-- so many bytes
abbrev pub read_bytes : ℕ → List ℕ → Taken (List ℕ)
read_bytes n rest = if nat_lt (length rest) n then None else Some (take n rest, drop n rest)

unfoldable pub read_str : List ℕ → Taken (List ℕ)
read_str bytes = then_read (read_word bytes) read_bytes

-- the items one after another
abbrev pub items : {A : Type 0} → (A → List ℕ) → List A → List ℕ
items code [] = []
items code (x ∷ xs) = code x ++ items code xs

-- items behind their count
unfoldable pub list : {A : Type 0} → (A → List ℕ) → List A → List ℕ
list code xs = word (length xs) ++ items code xs

-- so many items, behind those that were read already
abbrev pub read_items : {A : Type 0} → (List ℕ → Taken A) → List A → ℕ → List ℕ → Taken (List A)
read_items read found zero rest = Some (found, rest)
read_items read found (suc n) rest = then_read (read rest) (λ x more. read_items read (found ++ x ∷ []) n more)

unfoldable pub read_list : {A : Type 0} → (List ℕ → Taken A) → List ℕ → Taken (List A)
read_list read bytes = then_read (read_word bytes) (λ n rest. read_items read [] n rest)

abbrev pub Each : {A : Type 0} → (A → Type 0) → List A → Type 0
Each Fits [] = Unit {0}
Each Fits (x ∷ xs) = Fits x × Each Fits xs

pub record IsList {A : Type 0} (Fits : A → Type 0) (xs : List A) : Type 0 where
  pub short : IsShort xs
  pub each : Each Fits xs

-- ---- the same where a number takes eight bytes

unfoldable pub long_word : ℕ → List ℕ
long_word n = to_le_bytes w64 n

abbrev pub IsLongWord : ℕ → Type 0
IsLongWord n = n < 2 ^ 64

unfoldable pub read_long_word : List ℕ → Taken ℕ
read_long_word bytes =
    if nat_lt (length bytes) 8 then None else Some (from_le_bytes w64 (take 8 bytes), drop 8 bytes)

unfoldable pub long_str : List ℕ → List ℕ
long_str x = long_word (length x) ++ x

abbrev pub IsLong : {A : Type 0} → List A → Type 0
IsLong x = length x < 2 ^ 64

unfoldable pub read_long_str : List ℕ → Taken (List ℕ)
read_long_str bytes = then_read (read_long_word bytes) read_bytes

unfoldable pub long_list : {A : Type 0} → (A → List ℕ) → List A → List ℕ
long_list code xs = long_word (length xs) ++ items code xs

unfoldable pub read_long_list : {A : Type 0} → (List ℕ → Taken A) → List ℕ → Taken (List A)
read_long_list read bytes = then_read (read_long_word bytes) (λ n rest. read_items read [] n rest)

pub record IsLongList {A : Type 0} (Fits : A → Type 0) (xs : List A) : Type 0 where
  pub short : IsLong xs
  pub each : Each Fits xs

-- one value and then another
unfoldable pub both : {A B : Type 0} → (A → List ℕ) → (B → List ℕ) → A × B → List ℕ
both a b p = a p.0 ++ b p.1

unfoldable pub read_both : {A B : Type 0} → (List ℕ → Taken A) → (List ℕ → Taken B) → List ℕ → Taken (A × B)
read_both a b bytes = then_read (a bytes) (λ x rest. then_read (b rest) (λ y more. Some ((x, y), more)))

pub record AreBoth {A B : Type 0} (F : A → Type 0) (G : B → Type 0) (p : A × B) : Type 0 where
  pub first : F p.0
  pub second : G p.1

-- bytes that are one value and nothing behind it
unfoldable pub whole_of : {A : Type 0} → Taken A → Option A
whole_of None = None
whole_of (Some (x, [])) = Some x
whole_of (Some (x, _ ∷ _)) = None
