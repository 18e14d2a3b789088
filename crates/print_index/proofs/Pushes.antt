-- The fields of an index after a push.
use Rattle.std.proofs.Common.{◌≡◌, ◌<◌, ◌≤◌, ◌+◌, ◌-◌, get_or, ℕ, zero, suc, true, List, [], ◌∷◌, ◌++◌, length, drop, Option, None, Some, slice_get, is_some, unwrap_or, bytes_eq, cond, refl, sym, ap, subst, ◌∙◌, add-one, add-zero, zero-add, arith, ⊎_elim}
use Rattle.std.proofs.lemmas.Bool.{cases_eq}
use Rattle.std.specs.Prelude.{MatchOption, IfSome}
use Rattle.std.specs.Option.{SomeIff}
use Rattle.std.proofs.lemmas.Option.{get_or_from_slice_get}
use Rattle.std.specs.HashMap.{HashMap, get, keys}
use Rattle.std.specs.Map.{keys_of, lookup}
use Rattle.indexmap.specs.IndexMap.{insert_entry}
use Rattle.indexmap.proofs.CallerLemmas.{insert_entry-new, keys-insert_entry-present}
use Rattle.print_index.specs.Digests.{last_below, last_of, before_in, NoneBelow, IsLastBelow}
use Rattle.print_index.specs.Fields.{link_to, digest_at, digests_from, digests_in, count_of_firsts, Indexes}
use Rattle.print_index.proofs.Lasts.{length-push, slice_get-push, slice_get-pushed, last_below_is, last_below-some, last_of_push, before_in_push, before_in_pushed}

-- each link has its digest
pub length-digests_from : (digests firsts : List (List ℕ)) (links : List ℕ) → length (digests_from digests firsts links) ≡ length digests + length links
unfolding digests_from
length-digests_from digests firsts [] = sym (add-zero (length digests))
length-digests_from digests firsts (zero ∷ links) =
    let rest = length-digests_from (digests ++ digest_at firsts 0 ∷ []) (drop 1 firsts) links in
    let one = length-push digests (digest_at firsts 0) in
    omega arith
length-digests_from digests firsts (suc number ∷ links) =
    let rest = length-digests_from (digests ++ digest_at digests number ∷ []) firsts links in
    let one = length-push digests (digest_at digests number) in
    omega arith

-- a link of 0 tells the next of the firsts
pub digests_from-first : (digests firsts : List (List ℕ)) (links : List ℕ) (digest : List ℕ) → count_of_firsts links ≡ length firsts
    → digests_from digests (firsts ++ digest ∷ []) (links ++ 0 ∷ []) ≡ digests_from digests firsts links ++ digest ∷ []
unfolding digests_from count_of_firsts
digests_from-first digests [] [] digest counted = refl
digests_from-first digests (first ∷ firsts) [] digest counted = absurd (omega arith)
digests_from-first digests [] (zero ∷ links) digest counted = absurd (omega arith)
digests_from-first digests (first ∷ firsts) (zero ∷ links) digest counted = digests_from-first (digests ++ first ∷ []) firsts links digest (omega arith)
digests_from-first digests firsts (suc number ∷ links) digest counted = digests_from-first (digests ++ digest_at digests number ∷ []) firsts links digest counted

-- any other link tells the digest of the number that it leads to
pub digests_from-again : (digests firsts : List (List ℕ)) (links : List ℕ) (number : ℕ)
    → digests_from digests firsts (links ++ suc number ∷ []) ≡ digests_from digests firsts links ++ digest_at (digests_from digests firsts links) number ∷ []
unfolding digests_from
digests_from-again digests firsts [] number = refl
digests_from-again digests firsts (zero ∷ links) number = digests_from-again (digests ++ digest_at firsts 0 ∷ []) (drop 1 firsts) links number
digests_from-again digests firsts (suc other ∷ links) number = digests_from-again (digests ++ digest_at digests other ∷ []) firsts links number

count_of_firsts-first : (links : List ℕ) → count_of_firsts (links ++ 0 ∷ []) ≡ count_of_firsts links + 1
unfolding count_of_firsts
count_of_firsts-first [] = refl
count_of_firsts-first (zero ∷ links) = ap (λ n. n + 1) (count_of_firsts-first links)
count_of_firsts-first (suc number ∷ links) = count_of_firsts-first links

count_of_firsts-again : (links : List ℕ) (number : ℕ) → count_of_firsts (links ++ suc number ∷ []) ≡ count_of_firsts links
unfolding count_of_firsts
count_of_firsts-again [] number = refl
count_of_firsts-again (zero ∷ links) number = ap (λ n. n + 1) (count_of_firsts-again links number)
count_of_firsts-again (suc other ∷ links) number = count_of_firsts-again links number

keys_of-push : {X : Type 0} (es : List (List ℕ × X)) (k : List ℕ) (v : X) → keys_of (es ++ (k, v) ∷ []) ≡ keys_of es ++ k ∷ []
keys_of-push [] k v = refl
keys_of-push (e ∷ es) k v = ap (λ ks. e.0 ∷ ks) (keys_of-push es k v)

-- the fields of an index of no digests
pub no_digests : {S : Type 0} (last : HashMap (List ℕ) ℕ S) (links : List ℕ) → last.entries ≡ [] → links ≡ [] → digests_in (keys last) links ≡ []
unfolding digests_from
no_digests last links none empty = λ i. digests_in (keys_of (none i)) (empty i)

pub indexes_none : {S : Type 0} (last : HashMap (List ℕ) ℕ S) (links : List ℕ) → last.entries ≡ [] → links ≡ [] → Indexes last links (digests_in (keys last) links)
unfolding last_below count_of_firsts
indexes_none last links none empty = subst (Indexes last links) (sym (no_digests last links none empty)) (record {
  lasts = λ digest. ap (lookup (bytes_eq digest)) none;
  links_back = λ number within. absurd (omega arith);
  firsts = ap count_of_firsts empty ∙ ap (λ es. length (keys_of es)) (sym none);
})

module _ {S : Type 0} (last next : HashMap (List ℕ) ℕ S) (links : List ℕ) (digest : List ℕ) where
  -- the fields after a push, as far as the order of the firsts does not matter
  step : (digests : List (List ℕ)) (link : ℕ) → Indexes last links digests → length digests ≡ length links
      → ((d : List ℕ) → get bytes_eq next d ≡ cond (bytes_eq digest d) (Some (length links)) (get bytes_eq last d))
      → link ≡ link_to (last_of digests digest) → count_of_firsts (links ++ link ∷ []) ≡ length (keys next)
      → Indexes next (links ++ link ∷ []) (digests ++ digest ∷ [])
  step digests link has long updates linked counted = record {
    lasts = λ d. updates d ∙ (λ i. cond (bytes_eq digest d) (Some (sym long i)) (has.lasts d i)) ∙ sym (last_of_push digests digest d);
    links_back = links_back;
    firsts = counted;
  }
    where
      links_back : (number : ℕ) → number < length (digests ++ digest ∷ []) → slice_get (links ++ link ∷ []) number ≡ Some (link_to (before_in (digests ++ digest ∷ []) number))
      links_back number within = ⊎_elim
          (λ e. subst (λ n. slice_get (links ++ link ∷ []) n ≡ Some (link_to (before_in (digests ++ digest ∷ []) n))) (sym e)
          (ap (slice_get (links ++ link ∷ [])) long ∙ slice_get-pushed links link ∙ ap Some (linked ∙ ap link_to (sym (before_in_pushed digests digest)))))
          (λ ne.
          let one = length-push digests digest in
          let below : number < length digests = omega arith in
          slice_get-push links link number (subst (λ n. number < n) long below) ∙ has.links_back number below ∙ ap (λ o. Some (link_to o)) (sym (before_in_push digests digest number below)))
          (cases_eq number (length digests))

  -- the digests after a push, and that the fields say them
  pub pushed : (link : ℕ) → let digests = digests_in (keys last) links in Indexes last links digests
      → next.entries ≡ insert_entry bytes_eq last.entries digest (length links)
      → ((d : List ℕ) → get bytes_eq next d ≡ cond (bytes_eq digest d) (Some (length links)) (get bytes_eq last d))
      → link ≡ link_to (get bytes_eq last digest)
      → (digests_in (keys next) (links ++ link ∷ []) ≡ digests ++ digest ∷ []) × Indexes next (links ++ link ∷ []) (digests_in (keys next) (links ++ link ∷ []))
  pushed link has entries updates linked = by (get bytes_eq last digest) refl
    where
      long : length (digests_in (keys last) links) ≡ length links
      long = length-digests_from [] (keys last) links ∙ zero-add (length links)

      whole : digests_in (keys next) (links ++ link ∷ []) ≡ digests_in (keys last) links ++ digest ∷ [] → count_of_firsts (links ++ link ∷ []) ≡ length (keys next)
          → (digests_in (keys next) (links ++ link ∷ []) ≡ digests_in (keys last) links ++ digest ∷ []) × Indexes next (links ++ link ∷ []) (digests_in (keys next) (links ++ link ∷ []))
      whole is counted = (
        is,
        subst (Indexes next (links ++ link ∷ [])) (sym is)
            (step (digests_in (keys last) links) link has long updates (linked ∙ ap link_to (has.lasts digest)) counted),
      )

      by : (o : Option ℕ) → get bytes_eq last digest ≡ o
          → (digests_in (keys next) (links ++ link ∷ []) ≡ digests_in (keys last) links ++ digest ∷ []) × Indexes next (links ++ link ∷ []) (digests_in (keys next) (links ++ link ∷ []))
      by None none =
          let first : link ≡ 0 = linked ∙ ap link_to none in
          let added : keys next ≡ keys last ++ digest ∷ [] = ap keys_of (entries ∙ insert_entry-new bytes_eq last digest (length links) none) ∙ keys_of-push last.entries digest (length links) in
          let longer = length-push (keys last) digest in
          let count = count_of_firsts-first links in
          let had = has.firsts in
          whole
          ((λ i. digests_in (added i) (links ++ first i ∷ [])) ∙ digests_from-first [] (keys last) links digest has.firsts)
          (ap (λ n. count_of_firsts (links ++ n ∷ [])) first ∙ count ∙ ap (λ n. n + 1) had ∙ add-one (length (keys last)) ∙ sym longer ∙ ap length (sym added))
      by (Some number) some =
          let again : link ≡ suc number = linked ∙ ap link_to some ∙ add-one number in
          let there : is_some (get bytes_eq last digest) ≡ true = ap is_some some in
          let same : keys next ≡ keys last = ap keys_of entries ∙ keys-insert_entry-present bytes_eq last digest (length links) there in
          let found = subst (λ o. MatchOption o (NoneBelow (digests_in (keys last) links) (length (digests_in (keys last) links)) digest) (IsLastBelow (digests_in (keys last) links) (length (digests_in (keys last) links)) digest)) (sym (has.lasts digest) ∙ some) (last_below_is (digests_in (keys last) links) digest (length (digests_in (keys last) links))) in
          whole
          ((λ i. digests_in (same i) (links ++ again i ∷ [])) ∙ digests_from-again [] (keys last) links number ∙ ap (λ o. digests_in (keys last) links ++ unwrap_or o [] ∷ []) found.same)
          (ap (λ n. count_of_firsts (links ++ n ∷ [])) again ∙ count_of_firsts-again links number ∙ has.firsts ∙ ap length (sym same))

  -- the same, where the number and the links have other names
  pub pushed_as : (number link : ℕ) (after : List ℕ) → Indexes last links (digests_in (keys last) links) → number ≡ length links → after ≡ links ++ link ∷ []
      → next.entries ≡ insert_entry bytes_eq last.entries digest number
      → ((d : List ℕ) → get bytes_eq next d ≡ cond (bytes_eq digest d) (Some number) (get bytes_eq last d))
      → link ≡ link_to (get bytes_eq last digest)
      → (digests_in (keys next) after ≡ digests_in (keys last) links ++ digest ∷ []) × Indexes next after (digests_in (keys next) after)
  pushed_as number link after has is items entries updates linked =
      subst (λ xs. (digests_in (keys next) xs ≡ digests_in (keys last) links ++ digest ∷ []) × Indexes next xs (digests_in (keys next) xs)) (sym items)
      (pushed link has (entries ∙ ap (insert_entry bytes_eq last.entries digest) is) (λ d. updates d ∙ ap (λ n. cond (bytes_eq digest d) (Some n) (get bytes_eq last d)) is) linked)

-- a number that the map has is below the count of the links
pub lasts_below : {S : Type 0} (last : HashMap (List ℕ) ℕ S) (links : List ℕ) (digest : List ℕ) (o : Option ℕ) → Indexes last links (digests_in (keys last) links)
    → o ≡ get bytes_eq last digest → IfSome o (λ number. number < length links)
lasts_below last links digest o has is = by o (last_below-some (digests_in (keys last) links) (length (digests_in (keys last) links)) digest o (is ∙ has.lasts digest))
  where
    by : (p : Option ℕ) → IfSome p (IsLastBelow (digests_in (keys last) links) (length (digests_in (keys last) links)) digest) → IfSome p (λ number. number < length links)
    by None none = tt
    by (Some number) found = subst (λ n. number < n) (length-digests_from [] (keys last) links ∙ zero-add (length links)) found.below

-- the word that stands at a number is 1 more than the number before it, or 0
pub before_by_link : (links : List ℕ) (number word : ℕ) (before o : Option ℕ) → slice_get links number ≡ Some (link_to before) → word ≡ get_or links number word
    → SomeIff o (1 ≤ word) (word - 1) → o ≡ before
before_by_link links number word before o at read answer = by before o (read ∙ get_or_from_slice_get links number (link_to before) word at) answer
  where
    by : (b p : Option ℕ) → word ≡ link_to b → SomeIff p (1 ≤ word) (word - 1) → p ≡ b
    by None None is ok = refl
    by None (Some n) is ok = absurd (omega arith)
    by (Some m) None is ok = absurd (omega arith)
    by (Some m) (Some n) is ok = ap Some (omega arith)
