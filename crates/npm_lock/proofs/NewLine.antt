-- A line feed behind a JSON text changes none of its tokens.
use Rattle.std.proofs.Common.{◌≡◌, ◌⊎◌, inl, inr, ⊎_elim, ◌-◌, ◌+◌, ◌==◌, ◌||◌, ◌&&◌, ℕ, Bool, true, false, cond, List, [], ◌∷◌, ◌++◌, length, take, drop, Option, Some, None, option_map, option_and_then, nat_eq, refl, ap, ap₂, ◌∙◌, arith, length-append}
use Rattle.std.specs.List.{prefix_len, starts_with}
use Rattle.std.specs.Char.{is_ascii_digit, encode_utf8}
use Rattle.std.proofs.lemmas.List.{drop-append-le, take-append-le}
use Rattle.std.proofs.lemmas.List.Sums.{prefix_len-le-length}
use Rattle.json.specs.Token.{Token, begin_object, end_object, begin_array, end_array, key, string, number, boolean, null, bad}
use Rattle.json.specs.Word.{ends_word, after_digits, after_minus, after_sign, after_whole, after_fraction, after_exponent, after_number, number_before, literal, word}
use Rattle.json.specs.Text.{Within, plain, after_backslash, after_u, after_high, prepend, content, code_unit, short_escape, is_high_surrogate, is_low_surrogate, surrogate_pair}
use Rattle.json.specs.Lex.{Lexeme, token, comma, colon, Class, quote, backslash, operator, space, other, class, string_token, Mode, between, in_word, in_string, in_escape, lex_byte, lex, Place, fresh, after_value, after_comma, after_key, if_allowed, place_token, punctuate, tokens}
use Rattle.npm_lock.specs.Sets.{Has}

abbrev feed : List ℕ
feed = 10 ∷ []

-- ---- words

prefix_len-feed : (t : List ℕ) → prefix_len is_ascii_digit (t ++ feed) ≡ prefix_len is_ascii_digit t
prefix_len-feed [] = refl
prefix_len-feed (x ∷ t) = ap (λ k. cond (is_ascii_digit x) (1 + k) 0) (prefix_len-feed t)

-- what follows a part, with the line feed behind it
abbrev fed : Option (List ℕ) → Option (List ℕ)
fed o = option_map (λ t. t ++ feed) o

digits-feed : (t : List ℕ) → after_digits (t ++ feed) ≡ fed (after_digits t)
digits-feed t =
    let k : ℕ = prefix_len is_ascii_digit t in
    ap (λ j. cond (j == 0) None (Some (drop j (t ++ feed)))) (prefix_len-feed t)
    ∙ ap (λ r. cond (k == 0) None (Some r)) (drop-append-le k t feed (prefix_len-le-length is_ascii_digit t)) ∙ by (k == 0) (drop k t)
  where
    by : (b : Bool) (r : List ℕ) → cond b None (Some (r ++ feed)) ≡ fed (cond b None (Some r))
    by true r = refl
    by false r = refl

minus-feed : (t : List ℕ) → after_minus (t ++ feed) ≡ after_minus t ++ feed
minus-feed [] = refl
minus-feed (x ∷ t) = by (x == 45) where
  by : (b : Bool) → cond b (t ++ feed) (x ∷ t ++ feed) ≡ cond b t (x ∷ t) ++ feed
  by true = refl
  by false = refl

sign-feed : (t : List ℕ) → after_sign (t ++ feed) ≡ after_sign t ++ feed
sign-feed [] = refl
sign-feed (x ∷ t) = by ((x == 45) || (x == 43)) where
  by : (b : Bool) → cond b (t ++ feed) (x ∷ t ++ feed) ≡ cond b t (x ∷ t) ++ feed
  by true = refl
  by false = refl

whole-feed : (t : List ℕ) → after_whole (t ++ feed) ≡ fed (after_whole t)
whole-feed [] = refl
whole-feed (x ∷ t) = by (x == 48) where
  by : (b : Bool) → cond b (Some (t ++ feed)) (after_digits ((x ∷ t) ++ feed)) ≡ fed (cond b (Some t) (after_digits (x ∷ t)))
  by true = refl
  by false = digits-feed (x ∷ t)

fraction-feed : (t : List ℕ) → after_fraction (t ++ feed) ≡ fed (after_fraction t)
fraction-feed [] = refl
fraction-feed (x ∷ t) = by (x == 46) where
  by : (b : Bool) → cond b (after_digits (t ++ feed)) (Some ((x ∷ t) ++ feed)) ≡ fed (cond b (after_digits t) (Some (x ∷ t)))
  by true = digits-feed t
  by false = refl

exponent-feed : (t : List ℕ) → after_exponent (t ++ feed) ≡ fed (after_exponent t)
exponent-feed [] = refl
exponent-feed (x ∷ t) = by ((x == 101) || (x == 69)) where
  by : (b : Bool) → cond b (after_digits (after_sign (t ++ feed))) (Some ((x ∷ t) ++ feed)) ≡ fed (cond b (after_digits (after_sign t)) (Some (x ∷ t)))
  by true = ap after_digits (sign-feed t) ∙ digits-feed (after_sign t)
  by false = refl

then-feed : (f : List ℕ → Option (List ℕ)) → ((t : List ℕ) → f (t ++ feed) ≡ fed (f t)) → (o : Option (List ℕ)) → option_and_then f (fed o) ≡ fed (option_and_then f o)
then-feed f same None = refl
then-feed f same (Some t) = same t

number-feed : (t : List ℕ) → after_number (t ++ feed) ≡ fed (after_number t)
unfolding after_number
number-feed t =
    let w = after_whole (after_minus t) in
    ap (λ s. option_and_then after_exponent (option_and_then after_fraction (after_whole s))) (minus-feed t)
    ∙ ap (λ o. option_and_then after_exponent (option_and_then after_fraction o)) (whole-feed (after_minus t))
    ∙ ap (option_and_then after_exponent) (then-feed after_fraction fraction-feed w) ∙ then-feed after_exponent exponent-feed (option_and_then after_fraction w)

ends-feed : (t : List ℕ) → ends_word (t ++ feed) ≡ ends_word t
ends-feed [] = refl
ends-feed (x ∷ t) = refl

before-feed : (t : List ℕ) (o : Option (List ℕ)) → number_before (t ++ feed) (fed o) ≡ number_before t o
before-feed t None = refl
before-feed t (Some rest) =
    let same : length (t ++ feed) - length (rest ++ feed) ≡ length t - length rest = omega (arith, length-append t feed, length-append rest feed) in
    ap₂ (λ b k. cond b (number (take k (t ++ feed))) bad) (ends-feed rest) same
    ∙ ap (λ s. cond (ends_word rest) (number s) bad) (take-append-le (length t - length rest) t feed (omega arith))

-- a name without a line feed
abbrev NoFeed : List ℕ → Type 0
NoFeed [] = Unit {0}
NoFeed (c ∷ cs) = ((c == 10) ≡ false) × NoFeed cs

literal_test : (name t : List ℕ) → NoFeed name → (starts_with nat_eq (t ++ feed) name && ends_word (drop (length name) (t ++ feed))) ≡ (starts_with nat_eq t name && ends_word (drop (length name) t))
literal_test [] t h = ends-feed t
literal_test (c ∷ cs) [] h = rw h.0 refl
literal_test (c ∷ cs) (x ∷ t) h = by (c == x) (literal_test cs t h.1) where
  by : (b : Bool) → (starts_with nat_eq (t ++ feed) cs && ends_word (drop (length cs) (t ++ feed))) ≡ (starts_with nat_eq t cs && ends_word (drop (length cs) t))
      → ((b && starts_with nat_eq (t ++ feed) cs) && ends_word (drop (length cs) (t ++ feed))) ≡ ((b && starts_with nat_eq t cs) && ends_word (drop (length cs) t))
  by true e = e
  by false e = refl

literal-feed : (name t : List ℕ) (u : Token) → NoFeed name → literal name u (t ++ feed) ≡ literal name u t
literal-feed name t u h = ap (λ b. cond b u bad) (literal_test name t h)

word-feed : (x : ℕ) (t : List ℕ) → word (x ∷ t ++ feed) ≡ word (x ∷ t)
unfolding word
word-feed x t =
    ap₂ (λ a r. cond (x == 116) a r) (literal-feed (116 ∷ 114 ∷ 117 ∷ 101 ∷ []) (x ∷ t) (boolean true) (refl, (refl, (refl, (refl, tt)))))
    (ap₂ (λ a r. cond (x == 102) a r) (literal-feed (102 ∷ 97 ∷ 108 ∷ 115 ∷ 101 ∷ []) (x ∷ t) (boolean false) (refl, (refl, (refl, (refl, (refl, tt))))))
    (ap₂ (λ a r. cond (x == 110) a r) (literal-feed (110 ∷ 117 ∷ 108 ∷ 108 ∷ []) (x ∷ t) null (refl, (refl, (refl, (refl, tt)))))
    (ap (number_before (x ∷ t ++ feed)) (number-feed (x ∷ t)) ∙ before-feed (x ∷ t) (after_number (x ∷ t)))))

-- ---- strings

-- nothing, or the same
abbrev Kept : {A : Type 0} → Option A → Option A → Type 0
Kept o now = (o ≡ None) ⊎ (now ≡ o)

kept_cond : {A : Type 0} (b : Bool) (o p now next : Option A) → Kept o now → Kept p next → Kept (cond b o p) (cond b now next)
kept_cond true o p now next h k = h
kept_cond false o p now next h k = k

kept_prepend : (bytes : List ℕ) (o now : Option (List ℕ)) → Kept o now → Kept (prepend bytes o) (prepend bytes now)
kept_prepend bytes o now (inl e) = inl (ap (prepend bytes) e)
kept_prepend bytes o now (inr e) = inr (ap (prepend bytes) e)

kept_then : {A : Type 0} (f g : A → Option (List ℕ)) → ((a : A) → Kept (f a) (g a)) → (o : Option A) → Kept (option_and_then f o) (option_and_then g o)
kept_then f g h None = inl refl
kept_then f g h (Some a) = h a

content-feed : (m : Within) (xs : List ℕ) → Kept (content m xs) (content m (xs ++ feed))
unfolding content
content-feed plain [] = inl refl
content-feed plain (x ∷ xs) =
    kept_cond (x == 34) _ _ _ _ (inr refl)
    (kept_cond (x == 92) _ _ _ _ (content-feed after_backslash xs) (kept_cond _ _ _ _ _ (inl refl) (kept_prepend (x ∷ []) _ _ (content-feed plain xs))))
content-feed after_backslash [] = inl refl
content-feed after_backslash (x ∷ xs) = kept_cond (x == 117) _ _ _ _ (content-feed after_u xs) (kept_then _ _ (λ c. kept_prepend (c ∷ []) _ _ (content-feed plain xs)) (short_escape x))
content-feed after_u [] = inl refl
content-feed after_u (a ∷ []) = inl refl
content-feed after_u (a ∷ b ∷ []) = inl refl
content-feed after_u (a ∷ b ∷ c ∷ []) = inl refl
content-feed after_u (a ∷ b ∷ c ∷ d ∷ xs) =
    kept_then _ _ (λ u. kept_cond (is_high_surrogate u) _ _ _ _ (content-feed (after_high u) xs) (kept_cond (is_low_surrogate u) _ _ _ _ (inl refl) (kept_prepend (encode_utf8 u) _ _ (content-feed plain xs)))) (code_unit a b c d)
content-feed (after_high h) [] = inl refl
content-feed (after_high h) (s ∷ []) = inl refl
content-feed (after_high h) (s ∷ u ∷ []) = inl refl
content-feed (after_high h) (s ∷ u ∷ a ∷ []) = inl refl
content-feed (after_high h) (s ∷ u ∷ a ∷ b ∷ []) = inl refl
content-feed (after_high h) (s ∷ u ∷ a ∷ b ∷ c ∷ []) = inl refl
content-feed (after_high h) (s ∷ u ∷ a ∷ b ∷ c ∷ d ∷ xs) =
    kept_cond ((s == 92) && (u == 117)) _ _ _ _
    (kept_then _ _ (λ l. kept_cond (is_low_surrogate l) _ _ _ _ (kept_prepend (encode_utf8 (surrogate_pair h l)) _ _ (content-feed plain xs)) (inl refl)) (code_unit a b c d)) (inl refl)

-- ---- lexemes: the same, unless one is bad

abbrev Same : List Lexeme → List Lexeme → Type 0
Same ls now = Has ls (token bad) ⊎ (now ≡ ls)

behind : (l : Lexeme) (ls now : List Lexeme) → Same ls now → Same (l ∷ ls) (l ∷ now)
behind l ls now (inl h) = inl (inr h)
behind l ls now (inr e) = inr (ap (λ r. l ∷ r) e)

string_same : (o now : Option (List ℕ)) (ls next : List Lexeme) → Kept o now → Same ls next → Same (token (string_token o) ∷ ls) (token (string_token now) ∷ next)
string_same o now ls next (inl e) same = inl (inl (ap (λ s. token (string_token s)) e))
string_same o now ls next (inr e) (inl h) = inl (inr h)
string_same o now ls next (inr e) (inr q) = inr (ap₂ (λ s r. token (string_token s) ∷ r) e q)

word_same : (t u : Token) (ls next : List Lexeme) → u ≡ t → Same ls next → Same (token t ∷ ls) (token u ∷ next)
word_same t u ls next e (inl h) = inl (inr h)
word_same t u ls next e (inr q) = inr (ap₂ (λ s r. token s ∷ r) e q)

byte-feed : (m : Mode) (c : Class) (x : ℕ) (xs : List ℕ) → ((next : Mode) → Same (lex next xs) (lex next (xs ++ feed))) → Same (lex_byte m c x xs (λ next. lex next xs)) (lex_byte m c x (xs ++ feed) (λ next. lex next (xs ++ feed)))
byte-feed between quote x xs more = string_same _ _ _ _ (content-feed plain xs) (more in_string)
byte-feed between backslash x xs more = behind _ _ _ (more in_word)
byte-feed between operator x xs more = behind _ _ _ (more between)
byte-feed between space x xs more = more between
byte-feed between other x xs more = word_same _ _ _ _ (word-feed x xs) (more in_word)
byte-feed in_word quote x xs more = more in_word
byte-feed in_word backslash x xs more = more in_word
byte-feed in_word operator x xs more = behind _ _ _ (more between)
byte-feed in_word space x xs more = more between
byte-feed in_word other x xs more = more in_word
byte-feed in_string quote x xs more = more between
byte-feed in_string backslash x xs more = more in_escape
byte-feed in_string operator x xs more = more in_string
byte-feed in_string space x xs more = more in_string
byte-feed in_string other x xs more = more in_string
byte-feed in_escape c x xs more = more in_string

lex-feed : (m : Mode) (xs : List ℕ) → Same (lex m xs) (lex m (xs ++ feed))
unfolding lex
lex-feed between [] = inr refl
lex-feed in_word [] = inr refl
lex-feed in_string [] = inr refl
lex-feed in_escape [] = inr refl
lex-feed m (x ∷ xs) = byte-feed m (class x) x xs (λ next. lex-feed next xs)

-- ---- a bad lexeme is a bad token

allowed_bad : (b : Bool) (t : Token) (k : Place → List Token) (next : Place) → Has (k next) bad → Has (if_allowed b t k next) bad
allowed_bad true t k next h = inr h
allowed_bad false t k next h = inl refl

place_bad : (p : Place) (t : Token) (before : Bool) (k : Place → List Token) → ((next : Place) → Has (k next) bad) → Has (place_token p t before k) bad
place_bad p begin_object before k h = allowed_bad _ _ k fresh (h fresh)
place_bad p end_object before k h = allowed_bad _ _ k after_value (h after_value)
place_bad p begin_array before k h = allowed_bad _ _ k fresh (h fresh)
place_bad p end_array before k h = allowed_bad _ _ k after_value (h after_value)
place_bad p (key s) before k h = inl refl
place_bad p (string s) true k h = allowed_bad _ _ k after_key (h after_key)
place_bad p (string s) false k h = allowed_bad _ _ k after_value (h after_value)
place_bad p (number s) before k h = allowed_bad _ _ k after_value (h after_value)
place_bad p (boolean b) before k h = allowed_bad _ _ k after_value (h after_value)
place_bad p null before k h = allowed_bad _ _ k after_value (h after_value)
place_bad p bad before k h = inl refl

bad_here : (p : Place) (t : Token) (before : Bool) (k : Place → List Token) → token t ≡ token bad → Has (place_token p t before k) bad
bad_here p begin_object before k e = absurd (cc)
bad_here p end_object before k e = absurd (cc)
bad_here p begin_array before k e = absurd (cc)
bad_here p end_array before k e = absurd (cc)
bad_here p (key s) before k e = absurd (cc)
bad_here p (string s) before k e = absurd (cc)
bad_here p (number s) before k e = absurd (cc)
bad_here p (boolean b) before k e = absurd (cc)
bad_here p null before k e = absurd (cc)
bad_here p bad before k e = inl refl

punctuate-bad : (ls : List Lexeme) (p : Place) → Has ls (token bad) → Has (punctuate p ls) bad
unfolding punctuate
punctuate-bad [] p h = absurd h
punctuate-bad (token t ∷ ls) fresh (inl e) = bad_here fresh t _ _ e
punctuate-bad (token t ∷ ls) after_value (inl e) = bad_here after_value t _ _ e
punctuate-bad (token t ∷ ls) after_comma (inl e) = bad_here after_comma t _ _ e
punctuate-bad (token t ∷ ls) after_key (inl e) = bad_here after_key t _ _ e
punctuate-bad (token t ∷ ls) fresh (inr h) = place_bad fresh t _ _ (λ next. punctuate-bad ls next h)
punctuate-bad (token t ∷ ls) after_value (inr h) = place_bad after_value t _ _ (λ next. punctuate-bad ls next h)
punctuate-bad (token t ∷ ls) after_comma (inr h) = place_bad after_comma t _ _ (λ next. punctuate-bad ls next h)
punctuate-bad (token t ∷ ls) after_key (inr h) = place_bad after_key t _ _ (λ next. punctuate-bad ls next h)
punctuate-bad (comma ∷ ls) p (inl e) = absurd (cc)
punctuate-bad (comma ∷ ls) fresh (inr h) = inl refl
punctuate-bad (comma ∷ ls) after_value (inr h) = punctuate-bad ls after_comma h
punctuate-bad (comma ∷ ls) after_comma (inr h) = inl refl
punctuate-bad (comma ∷ ls) after_key (inr h) = inl refl
punctuate-bad (colon ∷ ls) p (inl e) = absurd (cc)
punctuate-bad (colon ∷ ls) fresh (inr h) = inl refl
punctuate-bad (colon ∷ ls) after_value (inr h) = inl refl
punctuate-bad (colon ∷ ls) after_comma (inr h) = inl refl
punctuate-bad (colon ∷ ls) after_key (inr h) = punctuate-bad ls fresh h

-- the tokens stay, where none of them is bad
pub tokens-feed : (text : List ℕ) → (Has (tokens text) bad → ⊥) → tokens (text ++ 10 ∷ []) ≡ tokens text
tokens-feed text good = ⊎_elim (λ h. absurd (good (punctuate-bad (lex between text) fresh h))) (ap (punctuate fresh)) (lex-feed between text)
