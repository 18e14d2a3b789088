-- Members that are picked one after another.
use Rattle.std.proofs.Common.{◌≡◌, ℕ, List, [], ◌∷◌, ◌++◌, Option, Some, None, refl, sym, ap, ◌∙◌, Less, Greater, nat_cmp, String, Global, string_bytes, append_assoc, append-nil, subst}
use Rattle.std.specs.List.{AllByRecursion}
use Rattle.std.specs.List.Sorted.{IsStrictlySortedBy}
use Rattle.std.specs.Map.{keys_of}
use Rattle.std.specs.String.{string_cmp}
use Rattle.std.specs.Ordering.{ordering_reverse}
use Rattle.std.specs.Cmp.Lexicographic.{slice_cmp}
use Rattle.std.specs.BTreeMap.{insert_entry}
use Rattle.std.proofs.lemmas.Cmp.{nat_list_cmp_total}
use Rattle.serde_json.specs.Data.{Data, Members, no_members, member, put}
use Rattle.serde_json.specs.View.{view, members_view}
use Rattle.serde_json.specs.declared.value.Value.{Value}
use Rattle.serde_json.proofs.Views.{members_view-insert_entry}
use Rattle.npm_lock.specs.Cut.{picked, with_member}

abbrev pub Entry : Type 0
Entry = String Global × Value

module _ (pick : List ℕ → Data → Option Data) where
  below_middle : (k : String Global) (es : List Entry) (e : Entry) (more : List Entry) → AllByRecursion (λ y. string_cmp k y ≡ Less) (keys_of (es ++ e ∷ more)) → string_cmp k e.0 ≡ Less
  below_middle k [] e more h = h.0
  below_middle k (x ∷ es) e more h = below_middle k es e more h.1

  -- a key above those before it goes last
  put_last : (done : List Entry) (e : Entry) (d : Data) (more : List Entry) → IsStrictlySortedBy string_cmp (keys_of (done ++ e ∷ more)) → pick (string_bytes e.0) (view e.1) ≡ Some d
      → put (string_bytes e.0) d (picked pick (members_view done)) ≡ picked pick (members_view (done ++ e ∷ []))
  unfolding IsStrictlySortedBy
  put_last [] e d more h is = rw is refl
  put_last (first ∷ done) e d more h is = by (pick (string_bytes first.0) (view first.1)) (put_last done e d more h.1 is) where
    above : slice_cmp nat_cmp (string_bytes e.0) (string_bytes first.0) ≡ Greater
    above = nat_list_cmp_total.antisymm (string_bytes e.0) (string_bytes first.0) ∙ ap ordering_reverse (below_middle first.0 done e more h.0)

    by : (o : Option Data) → put (string_bytes e.0) d (picked pick (members_view done)) ≡ picked pick (members_view (done ++ e ∷ []))
        → put (string_bytes e.0) d (with_member (string_bytes first.0) o (picked pick (members_view done))) ≡ with_member (string_bytes first.0) o (picked pick (members_view (done ++ e ∷ [])))
    by None rest = rest
    by (Some x) rest = rw above (ap (member (string_bytes first.0) x) rest)

  left_last : (done : List Entry) (e : Entry) → pick (string_bytes e.0) (view e.1) ≡ None → picked pick (members_view done) ≡ picked pick (members_view (done ++ e ∷ []))
  left_last [] e is = rw is refl
  left_last (first ∷ done) e is = ap (with_member (string_bytes first.0) (pick (string_bytes first.0) (view first.1))) (left_last done e is)

  -- what was gone over, and what it left
  pub record Going (all left : List Entry) (cut : Members) : Type 0 where
    pub done : List Entry
    pub split : all ≡ done ++ left
    pub so_far : cut ≡ picked pick (members_view done)

  module _ (all left rest : List Entry) (e : Entry) (cut : Members) (turn : left ≡ e ∷ rest) (going : Going all left cut) where
    whole : all ≡ going.done ++ e ∷ rest
    whole = going.split ∙ ap (λ es. going.done ++ es) turn

    pub taken : (now : List Entry) (cut_es : List Entry) (k : String Global) (v : Value) → cut ≡ members_view cut_es → now ≡ insert_entry string_cmp cut_es k v → string_bytes k ≡ string_bytes e.0 → pick (string_bytes e.0) (view e.1) ≡ Some (view v)
        → IsStrictlySortedBy string_cmp (keys_of all) → Going all rest (members_view now)
    taken now cut_es k v es is named picks sorted = record {
      done = going.done ++ e ∷ [];
      split = whole ∙ sym (append_assoc going.done (e ∷ []) rest);
      so_far = ap members_view is ∙ members_view-insert_entry cut_es k v ∙ ap (λ b. put b (view v) (members_view cut_es)) named ∙ ap (put (string_bytes e.0) (view v)) (sym es ∙ going.so_far)
          ∙ put_last going.done e (view v) rest (subst (λ es. IsStrictlySortedBy string_cmp (keys_of es)) whole sorted) picks;
    }

    pub passed : pick (string_bytes e.0) (view e.1) ≡ None → Going all rest cut
    passed none = record {
      done = going.done ++ e ∷ [];
      split = whole ∙ sym (append_assoc going.done (e ∷ []) rest);
      so_far = going.so_far ∙ left_last going.done e none;
    }

  pub started : (all : List Entry) → Going all all no_members
  started all = record { done = []; split = refl; so_far = refl }

  pub ended : (all left : List Entry) (cut : Members) → left ≡ [] → Going all left cut → cut ≡ picked pick (members_view all)
  ended all left cut over going = going.so_far ∙ ap (λ es. picked pick (members_view es)) (sym (append-nil going.done) ∙ sym (going.split ∙ ap (λ es. going.done ++ es) over))
