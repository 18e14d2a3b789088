-- What is printed reads back, with the line feed behind it.
use Rattle.std.proofs.Common.{◌≡◌, inl, inr, ⊎_elim, ℕ, true, List, [], ◌∷◌, ◌++◌, Some, refl, ap, ◌∙◌, subst}
use Rattle.std.specs.Str.{IsUtf8, is_utf8}
use Rattle.std.proofs.lemmas.Str.{is_utf8-from_IsUtf8, IsUtf8-append}
use Rattle.json.specs.Token.{Token, bad}
use Rattle.json.specs.Json as json
use Rattle.json.specs.Tree.{json_tokens, items_tokens, members_tokens}
use Rattle.json.specs.Layout.{pretty, pretty_from}
use Rattle.json.specs.Lex.{tokens}
use Rattle.json.proofs.Printed.Utf8.{IsUtf8-are_ascii}
use Rattle.serde_json.specs.Data.{object, Members}
use Rattle.serde_json.specs.Read.{read}
use Rattle.serde_json.specs.Written.{IsInOrder, blank, members_outline}
use Rattle.json_view.specs.Reading.{reading, behind_mark}
use Rattle.npm_lock.specs.Sets.{Has}
use Rattle.npm_lock.proofs.Reaching.{has_append}
use Rattle.npm_lock.proofs.NewLine.{tokens-feed}

-- no token of a value is bad
mutual
  json_good : (j : json.Json) → Has (json_tokens j) bad → ⊥
  json_good json.null (inl e) = cc
  json_good json.null (inr h) = h
  json_good (json.boolean b) (inl e) = cc
  json_good (json.boolean b) (inr h) = h
  json_good (json.number s) (inl e) = cc
  json_good (json.number s) (inr h) = h
  json_good (json.string s) (inl e) = cc
  json_good (json.string s) (inr h) = h
  json_good (json.array js) (inl e) = cc
  json_good (json.array js) (inr h) = items_good js h
  json_good (json.object ms) (inl e) = cc
  json_good (json.object ms) (inr h) = members_good ms h

  items_good : (js : json.Items) → Has (items_tokens js) bad → ⊥
  items_good json.no_items (inl e) = cc
  items_good json.no_items (inr h) = h
  items_good (json.item j js) h = ⊎_elim (json_good j) (items_good js) (has_append (json_tokens j) (items_tokens js) bad h)

  members_good : (ms : json.Members) → Has (members_tokens ms) bad → ⊥
  members_good json.no_members (inl e) = cc
  members_good json.no_members (inr h) = h
  members_good (json.member k j ms) (inl e) = cc
  members_good (json.member k j ms) (inr h) = ⊎_elim (json_good j) (members_good ms) (has_append (json_tokens j) (members_tokens ms) bad h)

-- an object is printed with its bracket first
object_first : (j : json.Json) (ms : json.Members) → blank j ≡ json.object ms → (ts : List Token) × (json_tokens j ≡ Token.begin_object ∷ ts)
object_first json.null ms e = absurd (cc)
object_first (json.boolean b) ms e = absurd (cc)
object_first (json.number s) ms e = absurd (cc)
object_first (json.string s) ms e = absurd (cc)
object_first (json.array js) ms e = absurd (cc)
object_first (json.object ns) ms e = (members_tokens ns, refl)

pretty_first : (ts : List Token) → (rest : List ℕ) × (pretty (Token.begin_object ∷ ts) ≡ 123 ∷ rest)
unfolding pretty_from
pretty_first ts = (_, refl)

no_mark : (rest : List ℕ) → behind_mark ((123 ∷ rest) ++ 10 ∷ []) ≡ (123 ∷ rest) ++ 10 ∷ []
no_mark rest = refl

pub printed_reads : (text : List ℕ) (ms : Members) → text ≡ pretty (tokens text) → IsUtf8 text → IsInOrder text (object ms) → read text ≡ Some (object ms) → reading (text ++ 10 ∷ []) ≡ Some (object ms)
unfolding reading
printed_reads text ms layout utf8 order back =
    let good : Has (tokens text) bad → ⊥ = λ h. json_good order.0 (subst (λ ts. Has ts bad) order.1 h) in
    let first = object_first order.0 (members_outline ms) order.2 in
    let p = pretty_first first.0 in
    let is : text ≡ 123 ∷ p.0 = layout ∙ ap pretty (order.1 ∙ first.1) ∙ p.1 in
    let plain : behind_mark (text ++ 10 ∷ []) ≡ text ++ 10 ∷ [] = rw is (no_mark p.0) in
    let all_utf8 : is_utf8 (text ++ 10 ∷ []) ≡ true = is_utf8-from_IsUtf8 (text ++ 10 ∷ []) (IsUtf8-append text (10 ∷ []) utf8 (IsUtf8-are_ascii (10 ∷ []) refl)) in
    rw plain (rw all_utf8 (rw (tokens-feed text good) back))
