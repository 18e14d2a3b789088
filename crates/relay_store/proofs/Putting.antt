-- Calls that put pairs, one after another.
use Rattle.std.proofs.Common.{◌≡◌, ℕ, zero, suc, ◌+◌, ◌≤◌, Bool, true, false, List, [], ◌∷◌, ◌++◌}
use Rattle.std.proofs.Common.{length, take, drop, Option, Some, Ok, Err, refl, sym, ◌∙◌, ap, subst}
use Rattle.std.proofs.Common.{arith, append_assoc, length-append}
use Rattle.std.specs.Prelude.{◌&&◌, ◌||◌, IsTrue, Result, IfOk, IfErr, OnOk, OnErr}
use Rattle.std.proofs.lemmas.List.{append-nil, take_all, take_at, take-append-le, drop-append-le}
use Rattle.std.proofs.lemmas.Bool.{and_parts}
use Rattle.rel_path.specs.Causes.{Counts}
use Rattle.store_dev.specs.declared.device.StoreDevice.{Ghosts}
use Rattle.cache_api.specs.declared.error.CacheErr.{CacheErr}
use Rattle.cache_api.specs.declared.error.CacheErr.TheVariants.{Full, Failed, OutOfMemory}
use Rattle.cache_api.specs.declared.puts.Puts.{Puts}
use Rattle.cache_api.specs.Cache.{AllAfter, Keeps, StaysWhole, is_fault, IsFindErr}
use Rattle.cache_api.specs.Calls.{stay_none, stay_then, keeps_none, keeps_then}
use Rattle.cache_api.specs.Moments.{Leaves, started, leaves_more, leaves_then}
use Rattle.cache_api.specs.Pairs.{Pair, IsFirstPart, IsPartSince}
use Rattle.cache_api.proofs.Firsts.{all_left, added_part}
use Rattle.artifact_store.specs.Pairs.{told_as}
use Rattle.relay_store.specs.declared.part.Part.{Part}
use Rattle.relay_store.specs.declared.relay.Relay.{Relay}
use Rattle.relay_store.specs.Stores.{state_in}
use Rattle.relay_store.specs.Parts.{first_of, more_of, pairs_of, IsRead, into, MayGrow}
use Rattle.relay_store.specs.Agree.{firsts, later, Agree, Leads}
use Rattle.relay_store.specs.Relays.{RelayBase, first_pairs, says, says_by, IsNotedBy, base_of}
use Rattle.relay_store.specs.Relays.{state_of, stands, shows, later_of, moment_of, left_of}
use Rattle.relay_store.specs.Calls.{IsPutting}
use Rattle.relay_store.specs.Rests.{OnlyNow, parted, noted_all, later_local, later_second, rests}
use Rattle.relay_store.specs.Rests.{local_says, second_says}
use Rattle.relay_store.proofs.Relays.{relay_leaves, relay_hits, relay_keeps}

-- ---- lists

pub first_more : (before x y : List Pair) (told : Option (List Pair)) → IsFirstPart before x told
    → IsFirstPart before (x ++ y) told
first_more before x y told (n, le, is) = (
  n,
  omega (arith, le, length-append x y),
  is ∙ ap (λ (l : List Pair). Some (before ++ l)) (sym (take-append-le n x y le)),
)

pub take_both : {A : Type 0} (x y : List A) (n : ℕ)
    → take (length x + n) (x ++ y) ≡ x ++ take n y
take_both [] y n = let same : 0 + n ≡ n = omega arith in ap (λ (k : ℕ). take k y) same
take_both {A = A} (p ∷ x) y n =
    let same : suc (length x) + n ≡ suc (length x + n) = omega arith in
    ap (λ (k : ℕ). take k (p ∷ (x ++ y))) same ∙ ap (λ (l : List A). p ∷ l) (take_both x y n)

pub first_then : (before mid x y : List Pair) (told : Option (List Pair)) → mid ≡ before ++ x
    → IsFirstPart mid y told → IsFirstPart before (x ++ y) told
first_then before mid x y told same (n, le, is) = (
  length x + n,
  omega (arith, le, length-append x y),
  is ∙ ap (λ (l : List Pair). Some l)
      (ap (λ (l : List Pair). l ++ take n y) same ∙ append_assoc before x (take n y)
      ∙ ap (λ (l : List Pair). before ++ l) (sym (take_both x y n))),
)

pub both_ok : {U : Type 0} (s : Result U CacheErr) (a b d x y : List Pair) → b ≡ a ++ x
    → OnOk s (d ≡ b ++ y) → OnOk s (d ≡ a ++ (x ++ y))
both_ok (Ok v) a b d x y first is = is ∙ ap (λ (l : List Pair). l ++ y) first ∙ append_assoc a x y
both_ok (Err e) a b d x y first is = tt

whole_ok : {U : Type 0} (s : Result U CacheErr) (a b d : Bool) → b ≡ a → OnOk s (d ≡ b)
    → OnOk s (d ≡ a)
whole_ok (Ok v) a b d first is = is ∙ first
whole_ok (Err e) a b d first is = tt

module _ {S R : Type 0} {G : Ghosts S} {H : Ghosts R} where
  -- ---- one and then another

  pub putting_then : {T U : Type 0} (a b d : Relay S R G H) (x y : List Pair) (v : T)
      (s : Result U CacheErr)
      → IsPutting a b x (Ok v) → IsPutting b d y s → IsPutting a d (x ++ y) s
  putting_then a b d x y v s p q = record {
    pairs = λ told. both_ok s (state_of a).pairs (state_of b).pairs (state_of d).pairs x y
        (p.pairs told) (q.pairs told);
    grown = λ told.
        let (m, is) = p.grown told in
        let (n, at) = q.grown told in
        (m ++ n, at ∙ ap (λ (l : List Pair). l ++ n) is ∙ append_assoc (later_of a) m n);
    left = λ told. leaves_then moment_of left_of a b d
        (λ image. IsFirstPart (state_of a).pairs x (says (base_of a) image))
        (λ image. IsFirstPart (state_of b).pairs y (says (base_of b) image))
        (λ image. IsFirstPart (state_of a).pairs (x ++ y) (says (base_of a) image))
        (p.left told) (q.left told)
        (λ image is. first_more (state_of a).pairs x y (says (base_of a) image) is)
        (λ image is. subst (λ (base : RelayBase G.tells H.tells). IsFirstPart (state_of a).pairs
        (x ++ y) (says base image)) p.keeps.base
        (first_then (state_of a).pairs (state_of b).pairs x y (says (base_of b) image)
        (p.pairs told) is));
    hits = stay_then (G.tells × H.tells) stands shows a b d p.hits q.hits;
    keeps = keeps_then (state_of a) (state_of b) (state_of d) p.keeps q.keeps;
    whole = whole_ok s (state_of a).whole (state_of b).whole (state_of d).whole p.whole q.whole;
    answers = q.answers;
    cause = subst (λ n. Counts is_fault n (state_of d).faults s) p.cause.counted q.cause;
  }

  -- ---- the same, said otherwise

  pub putting_as : {T : Type 0} (a b : Relay S R G H) (x y : List Pair) (r : Result T CacheErr)
      → (G.tells × H.tells → x ≡ y) → IsPutting a b x r → IsPutting a b y r
  putting_as a b x y r same p = record {
    pairs = λ told. subst (λ (l : List Pair). OnOk r
        ((state_of b).pairs ≡ (state_of a).pairs ++ l)) (same told) (p.pairs told);
    grown = p.grown;
    left = λ told. subst (λ (l : List Pair). Leaves moment_of left_of a b
        (λ image. IsFirstPart (state_of a).pairs l (says (base_of a) image))) (same told)
        (p.left told);
    hits = p.hits;
    keeps = p.keeps;
    whole = p.whole;
    answers = p.answers;
    cause = p.cause;
  }

  -- after an error there may have been more to put
  pub putting_err : {T U : Type 0} (a b : Relay S R G H) (x y : List Pair) (e : CacheErr)
      → IsPutting {T = T} a b x (Err e) → IsPutting {T = U} a b (x ++ y) (Err e)
  putting_err a b x y e p = record {
    pairs = λ told. tt;
    grown = p.grown;
    left = λ told. leaves_more moment_of left_of a b _ _ (p.left told)
        (λ image is. first_more (state_of a).pairs x y (says (base_of a) image) is);
    hits = p.hits;
    keeps = p.keeps;
    whole = tt;
    answers = p.answers;
    cause = record { later = p.cause.later; counted = p.cause.counted };
  }

  pub putting_ok : {T U : Type 0} (a b : Relay S R G H) (x : List Pair) (v : T) (w : U)
      → IsPutting a b x (Ok v) → IsPutting a b x (Ok w)
  putting_ok a b x v w p = record {
    pairs = p.pairs;
    grown = p.grown;
    left = p.left;
    hits = p.hits;
    keeps = p.keeps;
    whole = p.whole;
    answers = tt;
    cause = record { later = p.cause.later; counted = p.cause.counted };
  }

  -- and where memory is wanting behind it
  pub putting_memory : {T U : Type 0} (a b : Relay S R G H) (x y : List Pair) (v : T)
      → IsPutting a b x (Ok v) → IsPutting {T = U} a b (x ++ y) (Err OutOfMemory)
  putting_memory a b x y v p = record {
    pairs = λ told. tt;
    grown = p.grown;
    left = λ told. leaves_more moment_of left_of a b _ _ (p.left told)
        (λ image is. first_more (state_of a).pairs x y (says (base_of a) image) is);
    hits = p.hits;
    keeps = p.keeps;
    whole = tt;
    answers = tt;
    cause = record { later = p.cause.later; counted = p.cause.counted };
  }

  -- ---- before the first

  pub putting_none : {T : Type 0} (a : Relay S R G H) (v : T) → OnlyNow G → OnlyNow H
      → IsTrue (state_of a).whole
      → IsPutting a a [] (Ok v)
  putting_none a v only also whole = record {
    pairs = λ told. sym (append-nil (state_of a).pairs);
    grown = λ told. ([], sym (append-nil (later_of a)));
    left = λ told. started moment_of left_of a
        (λ image. IsFirstPart (state_of a).pairs [] (says (base_of a) image))
        (λ image left. (
          0,
          omega arith,
          rests only also a image told whole left
              ∙ ap (λ (l : List Pair). Some l) (sym (append-nil (state_of a).pairs)),
        ));
    hits = stay_none (G.tells × H.tells) stands shows a;
    keeps = keeps_none (state_of a);
    whole = refl;
    answers = tt;
    cause = record { later = omega arith; counted = refl };
  }

  -- ---- of the two stores

  -- where both were only read
  pub putting_read : {T : Type 0} (old new : Relay S R G H) (r : Result T CacheErr)
      → new.access ≡ old.access
      → new.added ≡ old.added → IsTrue old.whole → IsRead old.local new.local
      → IsRead old.second new.second
      → OnOk r ((state_of new).whole ≡ (state_of old).whole) → IfErr r IsFindErr
      → Counts is_fault (state_of old).faults (state_of new).faults r → IsPutting old new [] r
  putting_read old new r access added whole xl xs stays answers cause =
      let keeps = relay_keeps old new access xl.reads.keeps xs.reads.keeps in
      record {
        pairs = λ told. same_ok r (state_of old).pairs (state_of new).pairs (λ i.
            firsts (access i).local_puts (take (xl.first i) (xl.reads.pairs told.0 i))
            (take (xs.first i) (xs.reads.pairs told.1 i))
            ++ take (added i) (later (access i).local_puts
            (drop (xl.first i) (xl.reads.pairs told.0 i))
            (drop (xs.first i) (xs.reads.pairs told.1 i))));
        grown = λ told. (
          [],
          (λ i. later (access i).local_puts (drop (xl.first i) (xl.reads.pairs told.0 i))
              (drop (xs.first i) (xs.reads.pairs told.1 i)))
              ∙ sym (append-nil (later_of old)),
        );
        left = λ told. relay_leaves old new
            (λ c. IsPartSince (length (pairs_of old.local)) (pairs_of old.local)
            (told_as (state_in old.local.store).base c))
            (λ c. IsPartSince (length (pairs_of old.second)) (pairs_of old.second)
            (told_as (state_in old.second.store).base c))
            (λ image. IsFirstPart (state_of old).pairs [] (says (base_of old) image))
            keeps.base (xl.reads.left told.0) (xs.reads.left told.1)
            (λ t u c noted part. none_more (local_says old whole t u
            (told_as (state_in old.local.store).base c) (all_left _ _ part) noted))
            (λ t u c noted part. none_more (second_says old whole t u
            (told_as (state_in old.second.store).base c) (all_left _ _ part) noted));
        hits = relay_hits old new xl.reads.hits xs.reads.hits;
        keeps = keeps;
        whole = stays;
        answers = answers;
        cause = cause;
      }
    where
      same_ok : {T : Type 0} (r : Result T CacheErr) (a b : List Pair) → b ≡ a
          → OnOk r (b ≡ a ++ [])
      same_ok (Ok v) a b is = is ∙ sym (append-nil a)
      same_ok (Err e) a b is = tt

      none_more : {pairs : List Pair} {told : Option (List Pair)} → told ≡ Some pairs
          → IsFirstPart pairs [] told
      none_more {pairs = pairs} is =
          (0, omega arith, is ∙ ap (λ (l : List Pair). Some l) (sym (append-nil pairs)))

-- ---- pairs that were put into both

take_nil : (n : ℕ) → take {A = Pair} n [] ≡ []
take_nil zero = refl
take_nil (suc n) = refl

-- what an image says of a store that had these pairs behind its first ones, and then some more
says_grown : (puts : Bool) (all first more pairs news : List Pair) (told : Option (List Pair))
    → IsFirstPart (first ++ more) (into puts news) told → (puts ≡ false → more ≡ [])
    → (puts ≡ true → all ++ more ≡ pairs) → IsNotedBy puts first told
    → IsFirstPart pairs news (says_by puts all first told)
says_grown true all first more pairs news told (n, le, is) none ends noted = (
  n,
  le,
  noted_all true all first (more ++ take n news) (pairs ++ take n news) told
      (is ∙ ap (λ (l : List Pair). Some l) (append_assoc first more (take n news)))
      (λ other. absurd (cc))
      (λ puts. sym (append_assoc all more (take n news))
      ∙ ap (λ (l : List Pair). l ++ take n news) (ends refl))
      noted,
)
says_grown false all first more pairs news told (n, le, is) none ends noted =
    let nothing : take {A = Pair} n [] ≡ [] = take_nil n in
    absurd (noted refl (is
    ∙ ap (λ (l : List Pair). Some ((first ++ l) ++ take n [])) (none refl)
    ∙ ap (λ (l : List Pair). Some ((first ++ []) ++ l)) nothing
    ∙ ap (λ (l : List Pair). Some l) (append-nil (first ++ []) ∙ append-nil first)))

-- ---- results

ok_one : {T A B : Type 0} (r : Result T CacheErr) → (A → B) → OnOk r A → OnOk r B
ok_one (Ok v) to a = to a
ok_one (Err e) to a = tt

ok_three : {T A B C D : Type 0} (r : Result T CacheErr) → (A → B → C → D) → OnOk r A → OnOk r B
    → OnOk r C → OnOk r D
ok_three (Ok v) to a b c = to a b c
ok_three (Err e) to a b c = tt

-- ---- what stands behind the first pairs

pub more_grown : {S : Type 0} {G : Ghosts S} (old new : Part S G) (more : List Pair) → G.tells
    → new.first ≡ old.first → pairs_of new ≡ pairs_of old ++ more → more_of new ≡ more_of old
    ++ more
more_grown old new more told first is =
    (λ i. drop (first i) (is i)) ∙ drop-append-le old.first (pairs_of old) more (old.few told)

later_by : (b : Bool) (l k s t m n : List Pair) → k ≡ l ++ m → t ≡ s ++ n
    → (more : List Pair) × (later b k t ≡ later b l s ++ more)
later_by true l k s t m n x y = (m, x)
later_by false l k s t m n x y = (n, y)

later_all : (b q : Bool) (l k s t news : List Pair) → (b || q) ≡ true → k ≡ l ++ into b news
    → t ≡ s ++ into q news → later b k t ≡ later b l s ++ news
later_all true q l k s t news one x y = x
later_all false true l k s t news one x y = y
later_all false false l k s t news one x y = absurd (cc)

module _ {S R : Type 0} {G : Ghosts S} {H : Ghosts R} (old new : Relay S R G H) where
  -- the first pairs of the relay stay
  first_same : base_of new ≡ base_of old → G.tells → H.tells
      → firsts new.access.local_puts (first_of new.local) (first_of new.second)
      ≡ firsts old.access.local_puts (first_of old.local) (first_of old.second)
  first_same same t u = ap (λ (base : RelayBase G.tells H.tells). first_pairs base t u) same

  counted : (r : Relay S R G H) → IsTrue r.whole → G.tells → H.tells
      → take r.added (later_of r) ≡ later_of r
  counted r whole t u = take_all r.added (later_of r) (omega (arith, (r.agrees whole t u).counted))

  -- where no more are counted, the pairs are as before
  pub unchanged : {T : Type 0} (added : List Pair) (r : Result T CacheErr) → IsTrue old.whole
      → IsPutting old new added r → G.tells → H.tells
      → firsts new.access.local_puts (first_of new.local) (first_of new.second) ++ take old.added
      (later_of new)
      ≡ (state_of old).pairs
  unchanged added r whole p t u =
      let (more, is) = p.grown (t, u) in
      let few : old.added ≤ length (later_of old) = omega
      (arith, (old.agrees whole t u).counted) in
      let later_same : take old.added (later_of new) ≡ take old.added (later_of old) =
      ap (take old.added) is ∙ take-append-le old.added (later_of old) more few in
      λ i. first_same p.keeps.base t u i ++ later_same i

  module _ (news : List Pair) (result : Result Puts CacheErr) (access : new.access ≡ old.access)
      (l : MayGrow old.access.local_puts old.local new.local news result)
      (s : MayGrow old.access.second_puts old.second new.second news result) where
    grown_both : Keeps (state_of old) (state_of new)
    grown_both = relay_keeps old new access l.grown.keeps s.grown.keeps

    later_grown : G.tells → H.tells → (more : List Pair) × (later_of new ≡ later_of old ++ more)
    later_grown t u =
        let (m, le, is) = l.grown.pairs t in
        let (n, few, at) = s.grown.pairs u in
        let (more, both) = later_by old.access.local_puts (more_of old.local) (more_of new.local)
        (more_of old.second) (more_of new.second) _ _
        (more_grown old.local new.local _ t l.grown.first is)
        (more_grown old.second new.second _ u s.grown.first at) in
        (more, (λ i. later (access i).local_puts (more_of new.local) (more_of new.second)) ∙ both)

    pairs_grown : IsTrue old.whole → G.tells → H.tells → IsTrue new.whole
        → pairs_of new.local ≡ pairs_of old.local ++ into old.access.local_puts news
        → pairs_of new.second ≡ pairs_of old.second ++ into old.access.second_puts news
        → (state_of new).pairs ≡ (state_of old).pairs ++ news
    pairs_grown whole t u now is at =
        let all : later_of new ≡ later_of old ++ news =
        (λ i. later (access i).local_puts (more_of new.local) (more_of new.second))
        ∙ later_all old.access.local_puts old.access.second_puts (more_of old.local)
        (more_of new.local) (more_of old.second) (more_of new.second) news old.serves.puts
        (more_grown old.local new.local _ t l.grown.first is)
        (more_grown old.second new.second _ u s.grown.first at) in
        let before = firsts old.access.local_puts (first_of old.local) (first_of old.second) in
        (λ i. first_same grown_both.base t u i ++ counted new now t u i)
        ∙ ap (λ (m : List Pair). before ++ m) all
        ∙ sym (append_assoc before (later_of old) news)
        ∙ ap (λ (m : List Pair). (before ++ m) ++ news) (sym (counted old whole t u))

    pub putting_grown : IsTrue old.whole → OnOk result (IsTrue new.whole) → IfErr result IsFindErr
        → Counts is_fault (state_of old).faults (state_of new).faults result
        → IsPutting old new news result
    putting_grown whole now answers cause = record {
      pairs = λ told. ok_three result (pairs_grown whole told.0 told.1) now (l.all told.0)
          (s.all told.1);
      grown = λ told. later_grown told.0 told.1;
      left = λ told. relay_leaves old new
          (λ c. IsFirstPart (pairs_of old.local) (into old.access.local_puts news)
          (told_as (state_in old.local.store).base c))
          (λ c. IsFirstPart (pairs_of old.second) (into old.access.second_puts news)
          (told_as (state_in old.second.store).base c))
          (λ image. IsFirstPart (state_of old).pairs news (says (base_of old) image))
          grown_both.base (l.grown.left told.0) (s.grown.left told.1)
          (λ t u c noted is. let agree = old.agrees whole t u in
          says_grown old.access.local_puts _ (first_of old.local) (more_of old.local)
          (state_of old).pairs news (told_as (state_in old.local.store).base c)
          (subst (λ (m : List Pair). IsFirstPart m (into old.access.local_puts news)
          (told_as (state_in old.local.store).base c)) (parted old.local) is)
          agree.local_none
          (later_local old.access.local_puts _ (more_of old.local) (more_of old.second) old.added
          agree.counted agree.local_none) noted)
          (λ t u c noted is. let agree = old.agrees whole t u in
          says_grown old.access.second_puts _ (first_of old.second) (more_of old.second)
          (state_of old).pairs news (told_as (state_in old.second.store).base c)
          (subst (λ (m : List Pair). IsFirstPart m (into old.access.second_puts news)
          (told_as (state_in old.second.store).base c)) (parted old.second) is)
          agree.second_none
          (later_second old.access.local_puts old.access.second_puts _ (more_of old.local)
          (more_of old.second) old.added agree.counted agree.same) noted);
      hits = relay_hits old new l.grown.hits s.grown.hits;
      keeps = grown_both;
      whole = ok_three result (λ a b c. λ i. (a ∙ sym whole) i && (b i && c i)) now l.whole
          s.whole;
      answers = answers;
      cause = cause;
    }

-- ---- calls that only read

pub ok_whole : {T : Type 0} (r : Result T CacheErr) (before now : Bool) → StaysWhole r before now
    → OnOk r (now ≡ before)
ok_whole (Ok v) before now is = is
ok_whole (Err e) before now is = tt

pub counts_ok : {T U : Type 0} (before now : ℕ) (v : T) (w : U)
    → Counts {T = T} {E = CacheErr} is_fault before now (Ok v) → Counts {T = U} {E = CacheErr}
    is_fault before now (Ok w)
counts_ok before now v w c = record { later = c.later; counted = c.counted }

module _ {S R T : Type 0} {G : Ghosts S} {H : Ghosts R} (old new : Relay S R G H)
    (r : Result T CacheErr) where
  pub putting_asked : new.access ≡ old.access → new.added ≡ old.added → new.whole ≡ old.whole
      → IsTrue old.whole → IsRead old.local new.local → IsRead old.second new.second
      → OnOk r ((state_in new.local.store).whole ≡ (state_in old.local.store).whole)
      → OnOk r ((state_in new.second.store).whole ≡ (state_in old.second.store).whole)
      → IfErr r IsFindErr → Counts is_fault (state_of old).faults (state_of new).faults r
      → IsPutting old new [] r
  putting_asked access added same whole xl xs l s answers cause =
      putting_read old new r access added whole xl xs
      (ok_three r (λ (a : Unit {0}) b c. λ i. same i && (b i && c i)) (ok_unit r) l s) answers
      cause
    where
      ok_unit : (r : Result T CacheErr) → OnOk r (Unit {0})
      ok_unit (Ok v) = tt
      ok_unit (Err e) = tt

-- a premise that stands inside
pub moved_in : {X E : Type 0} (A T Q : Type 0) (r : Result X E) (P : X → Type 0)
    → (T → IfOk r (λ x. P x → Q)) → IfOk r (λ x. P x → A → T → Q)
moved_in A T Q (Ok x) P to = λ p a t. to t p
moved_in A T Q (Err e) P to = tt

-- ---- what is there after all

pub all_after : {T : Type 0} (r : Result T CacheErr) (before added now : List Pair)
    → OnOk r (now ≡ before ++ added) → OnErr r (now ≡ before)
    → AllAfter r (length before) before added now
all_after (Ok v) before added now is same = is
all_after (Err Failed) before added now is same =
    (length before, omega arith, same ∙ sym (take_at before added (length before) refl))
all_after (Err Full) before added now is same = same
all_after (Err OutOfMemory) before added now is same = same

-- a crash leaves of the relay as a cache what it leaves of a call that puts these
pub put_left : {S R : Type 0} {G : Ghosts S} {H : Ghosts R} (old new : Relay S R G H)
    (added : List Pair)
    → Leaves moment_of left_of old new
    (λ image. IsFirstPart (state_of old).pairs added (says (base_of old) image))
    → Leaves moment_of left_of old new (λ image. IsPartSince (state_of old).lasting
    ((state_of old).pairs ++ added) (says (base_of old) image))
put_left old new added leaves = leaves_more moment_of left_of old new _ _ leaves
    (λ image part. added_part (state_of old).pairs added (says (base_of old) image) part)

-- there are no fewer then
pub no_fewer : {T : Type 0} (r : Result T CacheErr) (before added now : List Pair)
    → OnOk r (now ≡ before ++ added) → OnErr r (now ≡ before) → length before ≤ length now
no_fewer (Ok v) before added now is same =
    omega (arith, ap length is, length-append before added)
no_fewer (Err e) before added now is same = omega (arith, ap length same)

-- ---- the second store leads

pub leads_by : (l k s t x z : List Pair) → k ≡ l ++ x → t ≡ s ++ (x ++ z) → s ≡ l → Leads k t
leads_by l k s t x z at is same =
    let all : t ≡ k ++ z =
    is ∙ ap (λ (m : List Pair). m ++ (x ++ z)) same ∙ sym (append_assoc l x z)
    ∙ ap (λ (m : List Pair). m ++ z) (sym at) in
    ap (take (length k)) all ∙ take_at k z (length k) refl

pub leads_self : (l s : List Pair) → s ≡ l → Leads l s
leads_self l s same = ap (take (length l)) same ∙ take_all (length l) l (omega arith)

-- ---- both have the same behind a put

into_true : (b : Bool) (news : List Pair) → b ≡ true → into b news ≡ news
into_true true news is = refl
into_true false news is = absurd (cc)

into_false : (b : Bool) (news : List Pair) → b ≡ false → into b news ≡ []
into_false true news is = absurd (cc)
into_false false news is = refl

pub counted_true : (b : Bool) (n : ℕ) (local second : List Pair) → b ≡ true → n ≡ length local
    → n ≡ length (later b local second)
counted_true true n local second is x = x
counted_true false n local second is x = absurd (cc)

pub counted_false : (b : Bool) (n : ℕ) (local second : List Pair) → b ≡ false → n ≡ length second
    → n ≡ length (later b local second)
counted_false true n local second is x = absurd (cc)
counted_false false n local second is x = x

pub agree_grown : {S R : Type 0} {G : Ghosts S} {H : Ghosts R} (old : Relay S R G H)
    (local : Part S G)
    (second : Part R H) (count : ℕ) (news : List Pair) → IsTrue old.whole → G.tells → H.tells
    → local.first ≡ old.local.first → second.first ≡ old.second.first
    → pairs_of local ≡ pairs_of old.local ++ into old.access.local_puts news
    → pairs_of second ≡ pairs_of old.second ++ into old.access.second_puts news
    → count ≡ length (later old.access.local_puts (more_of local) (more_of second))
    → Agree old.access count local second
agree_grown old local second count news whole t u lf sf l s counted =
    let agree = old.agrees whole t u in
    let ml = more_grown old.local local _ t lf l in
    let ms = more_grown old.second second _ u sf s in
    record {
      local_none = λ other. ml ∙ (λ i. agree.local_none other i ++ into_false
          old.access.local_puts news other i);
      second_none = λ other. ms ∙ (λ i. agree.second_none other i ++ into_false
          old.access.second_puts news other i);
      same = λ both.
          let puts = and_parts _ _ both in
          ms ∙ (λ i. agree.same both i ++ into_true old.access.second_puts news puts.1 i)
          ∙ sym (ml ∙ ap (λ (m : List Pair). more_of old.local ++ m)
          (into_true old.access.local_puts news puts.0));
      counted = counted;
    }
