-- From what calls leave of the parts of a relay to what they leave of each store.
use Rattle.std.proofs.Common.{◌≡◌, ℕ, ◌+◌, ◌<◌, ◌≤◌, get_or, Bool, true, false, List, [], ◌∷◌}
use Rattle.std.proofs.Common.{◌++◌, length}
use Rattle.std.proofs.Common.{take, Option, Some, Ok, Err, refl, sym, ◌∙◌, ap, subst, arith}
use Rattle.std.proofs.Common.{append_assoc, length-append}
use Rattle.std.specs.Prelude.{◌||◌, IsTrue, Result, IfOk}
use Rattle.std.proofs.lemmas.List.{append-nil, take_all, take-append-le}
use Rattle.std.proofs.lemmas.Result.{IfOk-weaker}
use Rattle.store_dev.specs.Device.{LeavesOnly}
use Rattle.store_dev.specs.Moments as device
use Rattle.store_dev.specs.declared.device.StoreDevice.{Ghosts}
use Rattle.cache_api.specs.declared.error.CacheErr.{CacheErr}
use Rattle.cache_api.specs.declared.puts.Put.{Put}
use Rattle.cache_api.specs.declared.puts.Put.TheVariants.{Stored, Full}
use Rattle.cache_api.specs.declared.puts.Puts.{Puts}
use Rattle.cache_api.specs.Cache.{ArePut}
use Rattle.cache_api.specs.Calls.{stay_none, stay_then, keeps_none, keeps_then}
use Rattle.cache_api.specs.Moments.{Leaves}
use Rattle.cache_api.specs.Pairs.{Pair, chosen, IsFirstPart, IsPartSince}
use Rattle.cache_api.proofs.Firsts.{all_left}
use Rattle.artifact_store.specs.declared.store.Store.{Store}
use Rattle.artifact_store.specs.Pairs.{told_as}
use Rattle.cli_words.specs.declared.order.Access.{Access}
use Rattle.relay_store.specs.declared.part.Part.{Part}
use Rattle.relay_store.specs.declared.relay.Relay.{Relay}
use Rattle.relay_store.specs.Stores.{state_in, moment_in, images_in, stands_in, shows_in}
use Rattle.relay_store.specs.Puts.{Space, puts_in, spaces_behind, all_stored}
use Rattle.relay_store.specs.Parts as part
use Rattle.relay_store.specs.Parts.{PartBase, pairs_of, IsRead, into, MayGrow}
use Rattle.relay_store.specs.Relays.{spaces, stores, stores_of}
use Rattle.relay_store.specs.Rests.{OnlyNow, rest_in}
use Rattle.relay_store.specs.Devices.{IsOnlyRead, IsGiven, HasAll, HasTaken, AnswersTo, TellPuts}
use Rattle.relay_store.specs.Devices.{Gives, HasPut}
use Rattle.relay_store.proofs.Asked.{on_ok}
use Rattle.relay_store.proofs.Putting.{first_more, first_then, take_both, both_ok}
use Rattle.relay_store.specs.Rooms.{even}
use Rattle.relay_store.proofs.Spaces.{puts_append, chosen_append, chosen_all}

-- ---- from a part to its store

module _ {S : Type 0} {G : Ghosts S} where
  -- of its clock, which is the only one
  one_clock : (old new : Part S G) (P : List ℕ → Type 0)
      → Leaves part.moment_of part.left_of old new P
      → LeavesOnly moment_in images_in old.store new.store P
  one_clock old new P x = record {
    later = x.later.first;
    each = x.each;
    before = λ m c le since. x.before (record { first = m; second = 0 }) c
        (record { first = le; second = omega arith }) since;
  }

  pub read_store : (old new : Part S G) → IsRead old new → IsOnlyRead old.store new.store
  read_store old new x = record {
    pairs = x.reads.pairs;
    cost_same = x.reads.cost_same;
    left = λ told. device.leaves_more moment_in images_in old.store new.store
        (λ c. IsPartSince (length (pairs_of old)) (pairs_of old)
        (told_as (state_in old.store).base c))
        (λ c. told_as (state_in old.store).base c ≡ Some (pairs_of old))
        (one_clock old new _ (x.reads.left told)) (λ c part. all_left _ _ part);
    hits = record { stays = x.reads.hits.stays; same = x.reads.hits.same };
    keeps = record {
      base = ap (λ (b : PartBase G.tells). b.generation) x.reads.keeps.base;
      room = x.reads.keeps.room;
      probes = x.reads.keeps.probes;
    };
    there = x.there;
  }

  taken_store : (puts : Bool) (old new : Part S G) (pairs : List Pair)
      (result : Result Puts CacheErr) → MayGrow puts old new pairs result
      → HasTaken old.store new.store (into puts pairs) result
  taken_store puts old new pairs result x = record {
    given = record {
      pairs = x.grown.pairs;
      left = λ told. one_clock old new (λ c. IsFirstPart (pairs_of old) (into puts pairs)
          (told_as (state_in old.store).base c)) (x.grown.left told);
      hits = record { stays = x.grown.hits.stays; same = x.grown.hits.same };
      keeps = record {
        base = ap (λ (b : PartBase G.tells). b.generation) x.grown.keeps.base;
        room = x.grown.keeps.room;
        probes = x.grown.keeps.probes;
      };
      there = x.grown.there;
    };
    all = x.all;
  }

-- ---- calls of a store, one behind another

module _ {S : Type 0} {G : Ghosts S} where
  pub none_all : (o : Option (Store S G)) → OnlyNow G → IsTrue (state_in o).whole → HasAll o o []
  none_all o only whole = record {
    given = record {
      pairs = λ told. (0, omega arith, sym (append-nil (state_in o).pairs));
      left = λ told. device.started moment_in images_in o
          (λ c. IsFirstPart (state_in o).pairs [] (told_as (state_in o).base c))
          (λ c left. (
            0,
            omega arith,
            rest_in only o told whole c left
                ∙ ap (λ (l : List Pair). Some l) (sym (append-nil (state_in o).pairs)),
          ));
      hits = stay_none G.tells stands_in shows_in o;
      keeps = keeps_none (state_in o);
      there = refl;
    };
    all = λ told. sym (append-nil (state_in o).pairs);
  }

  pub read_all : (a b : Option (Store S G)) → IsOnlyRead a b → HasAll a b []
  read_all a b x = record {
    given = record {
      pairs = λ told. (0, omega arith, x.pairs told ∙ sym (append-nil (state_in a).pairs));
      left = λ told. device.leaves_more moment_in images_in a b
          (λ c. told_as (state_in a).base c ≡ Some (state_in a).pairs)
          (λ c. IsFirstPart (state_in a).pairs [] (told_as (state_in a).base c)) (x.left told)
          (λ c is. (
            0,
            omega arith,
            is ∙ ap (λ (l : List Pair). Some l) (sym (append-nil (state_in a).pairs)),
          ));
      hits = x.hits;
      keeps = x.keeps;
      there = x.there;
    };
    all = λ told. x.pairs told ∙ sym (append-nil (state_in a).pairs);
  }

  given_then : (a b d : Option (Store S G)) (x y : List Pair) → HasAll a b x → IsGiven b d y
      → IsGiven a d (x ++ y)
  given_then a b d x y p q = record {
    pairs = λ told.
        let (n, le, is) = q.pairs told in (
          length x + n,
          omega (arith, le, length-append x y),
          is ∙ ap (λ (l : List Pair). l ++ take n y) (p.all told)
              ∙ append_assoc (state_in a).pairs x (take n y)
              ∙ ap (λ (l : List Pair). (state_in a).pairs ++ l) (sym (take_both x y n)),
        );
    left = λ told. device.leaves_then moment_in images_in a b d
        (λ c. IsFirstPart (state_in a).pairs x (told_as (state_in a).base c))
        (λ c. IsFirstPart (state_in b).pairs y (told_as (state_in b).base c))
        (λ c. IsFirstPart (state_in a).pairs (x ++ y) (told_as (state_in a).base c))
        (p.given.left told) (q.left told)
        (λ c is. first_more (state_in a).pairs x y (told_as (state_in a).base c) is)
        (λ c is. subst (λ n. IsFirstPart (state_in a).pairs (x ++ y) (told_as n c))
        p.given.keeps.base (first_then (state_in a).pairs (state_in b).pairs x y
        (told_as (state_in b).base c) (p.all told) is));
    hits = stay_then G.tells stands_in shows_in a b d p.given.hits q.hits;
    keeps = keeps_then (state_in a) (state_in b) (state_in d) p.given.keeps q.keeps;
    there = q.there ∙ p.given.there;
  }

  pub taken_then : {T : Type 0} (a b d : Option (Store S G)) (x y : List Pair)
      (r : Result T CacheErr) → HasAll a b x → HasTaken b d y r → HasTaken a d (x ++ y) r
  taken_then a b d x y r p q = record {
    given = given_then a b d x y p q.given;
    all = λ told. both_ok r (state_in a).pairs (state_in b).pairs (state_in d).pairs x y
        (p.all told) (q.all told);
  }

  -- a call that gave nothing, whether it was to give anything or not
  nothing : {T : Type 0} (puts : Bool) (a b : Option (Store S G)) (r : Result T CacheErr)
      → HasAll a b [] → HasTaken a b (into puts []) r
  nothing true a b r x = record { given = x.given; all = λ told. on_ok r (x.all told) }
  nothing false a b r x = record { given = x.given; all = λ told. on_ok r (x.all told) }

  all_ok : {T : Type 0} (a b : Option (Store S G)) (news : List Pair) (v : T)
      → HasTaken a b news (Ok v) → HasAll a b news
  all_ok a b news v x = record { given = x.given; all = x.all }

  taken_ok : {T U : Type 0} (a b : Option (Store S G)) (news : List Pair) (v : T) (w : U)
      → HasTaken a b news (Ok v) → HasTaken a b news (Ok w)
  taken_ok a b news v w x = record { given = x.given; all = x.all }

  taken_err : {T U : Type 0} (a b : Option (Store S G)) (news : List Pair)
      (r : Result T CacheErr) (e : CacheErr) → HasTaken a b news r
      → HasTaken {T = U} a b news (Err e)
  taken_err a b news r e x = record { given = x.given; all = λ told. tt }

-- ---- lists of answers

answers_append : (p q a b : List Put) → AnswersTo p a → AnswersTo q b
    → AnswersTo (p ++ q) (a ++ b)
answers_append [] q [] b x y = y
answers_append [] q (put ∷ a) b x y = absurd x
answers_append (Stored ∷ p) q [] b x y = absurd x
answers_append (Full ∷ p) q [] b x y = absurd x
answers_append (Stored ∷ p) q (put ∷ a) b x y = answers_append p q a b x y
answers_append (Full ∷ p) q (put ∷ a) b x y = (x.0, answers_append p q a b x.1 y)

answers_even : (p a : List Put) → AnswersTo p a → length p ≡ length a
answers_even [] [] x = refl
answers_even [] (put ∷ a) x = absurd x
answers_even (Stored ∷ p) [] x = absurd x
answers_even (Full ∷ p) [] x = absurd x
answers_even (Stored ∷ p) (put ∷ a) x = omega (arith, answers_even p a x)
answers_even (Full ∷ p) (put ∷ a) x = omega (arith, answers_even p a x.1)

answers_all : (pairs : List Pair) (puts : List Put) → length puts ≡ length pairs
    → AnswersTo (all_stored pairs) puts
answers_all [] [] same = tt
answers_all [] (put ∷ puts) same = absurd (omega (arith, same))
answers_all (pair ∷ pairs) [] same = absurd (omega (arith, same))
answers_all (pair ∷ pairs) (put ∷ puts) same = answers_all pairs puts (omega (arith, same))

stored_even : (pairs : List Pair) → length (all_stored pairs) ≡ length pairs
stored_even [] = refl
stored_even (pair ∷ pairs) = omega (arith, stored_even pairs)

pub only_one : (puts : List Put) → 1 ≤ length puts → length puts < 2
    → get_or puts 0 Stored ∷ [] ≡ puts
only_one [] some few = absurd (omega (arith, some))
only_one (put ∷ []) some few = refl
only_one (put ∷ other ∷ puts) some few = absurd (omega (arith, few))

-- of pairs to which the call did not come none are chosen
chosen_few : (xs ys : List Pair) (q : List Put) → length q ≤ length xs
    → chosen (xs ++ ys) q ≡ chosen xs q
chosen_few [] [] q le = refl
chosen_few [] (y ∷ ys) [] le = refl
chosen_few [] (y ∷ ys) (put ∷ q) le = absurd (omega (arith, le))
chosen_few (x ∷ xs) ys [] le = refl
chosen_few (x ∷ xs) ys (Stored ∷ q) le =
    ap (λ (l : List Pair). x ∷ l) (chosen_few xs ys q (omega (arith, le)))
chosen_few (x ∷ xs) ys (Full ∷ q) le = chosen_few xs ys q (omega (arith, le))

into_append : (puts : Bool) (xs ys : List Pair)
    → into puts xs ++ into puts ys ≡ into puts (xs ++ ys)
into_append true xs ys = refl
into_append false xs ys = refl

-- ---- which devices tell

pub both_tell : {T U : Type 0} (access : Access) → T → U → TellPuts access T U
both_tell access t u = record { local = λ is. t; second = λ is. u }

pub tell_as : {T U : Type 0} (a b : Access) → b ≡ a → TellPuts a T U → TellPuts b T U
tell_as a b same told = record {
  local = λ is. told.local (sym (ap (λ (x : Access). x.local_puts) same) ∙ is);
  second = λ is. told.second (sym (ap (λ (x : Access). x.second_puts) same) ∙ is);
}

-- one of the stores is put into
lead_tells : {T : Type 0} (p q : Bool) (A B : Type 0) → (p || q) ≡ true → (p ≡ true → A)
    → (q ≡ true → B) → (p ≡ true → A → T) → (p ≡ false → B → T) → T
lead_tells true q A B one a b x y = x refl (a refl)
lead_tells false q A B one a b x y = y refl (b one)

-- ---- both stores

module _ {S R : Type 0} {G : Ghosts S} {H : Ghosts R} where
  -- before the first call, or behind calls that only read
  pub gives_none : (old new : Relay S R G H) → IsRead old.local new.local
      → IsRead old.second new.second
      → Gives {T = Unit {0}} (λ v. []) old (stores_of new) [] (Ok tt)
  gives_none old new l s = record {
    given = [];
    few = omega arith;
    answered = tt;
    local_answers = λ is told. refl;
    second_answers = λ is told. refl;
    room = λ told. refl;
    local = nothing old.access.local_puts old.local.store new.local.store (Ok tt)
        (read_all old.local.store new.local.store (read_store old.local new.local l));
    second = nothing old.access.second_puts old.second.store new.second.store (Ok tt)
        (read_all old.second.store new.second.store (read_store old.second new.second s));
  }

  -- a pair for which there was no room
  pub gives_full : (old new : Relay S R G H) (pair : Pair) → IsRead old.local new.local
      → IsRead old.second new.second
      → (TellPuts old.access G.tells H.tells → stores old (pair ∷ []) ≡ Full ∷ [])
      → Gives (λ (put : Put). put ∷ []) old (stores_of new) (pair ∷ []) (Ok Full)
  gives_full old new pair l s full = record {
    given = Full ∷ [];
    few = omega arith;
    answered = (refl, tt);
    local_answers = λ is told. refl;
    second_answers = λ is told. refl;
    room = λ told. sym (ap (take 1) (full told));
    local = nothing old.access.local_puts old.local.store new.local.store (Ok Full)
        (read_all old.local.store new.local.store (read_store old.local new.local l));
    second = nothing old.access.second_puts old.second.store new.second.store (Ok Full)
        (read_all old.second.store new.second.store (read_store old.second new.second s));
  }

  -- pairs for all of which there was room
  pub gives_all : (old new : Relay S R G H) (pairs : List Pair) (room : ℕ)
      (result : Result Puts CacheErr)
      → MayGrow old.access.local_puts old.local new.local pairs result
      → MayGrow old.access.second_puts old.second new.second pairs result
      → IfOk result (ArePut room pairs)
      → (TellPuts old.access G.tells H.tells → stores old pairs ≡ all_stored pairs)
      → (old.access.local_puts ≡ true → G.tells → IfOk result (λ puts. puts ≡ all_stored pairs))
      → (old.access.local_puts ≡ false → H.tells → IfOk result (λ puts. puts ≡ all_stored pairs))
      → HasPut old (stores_of new) pairs result
  gives_all old new pairs room result l s put all by_local by_second = record {
    given = all_stored pairs;
    few = omega (arith, stored_even pairs);
    answered = IfOk-weaker result (ArePut room pairs) (AnswersTo (all_stored pairs))
        (λ puts x. answers_all pairs puts x.even) put;
    local_answers = by_local;
    second_answers = by_second;
    room = λ told. sym (take_all (length (all_stored pairs)) (all_stored pairs) (omega arith))
        ∙ ap (take (length (all_stored pairs))) (sym (all told));
    local = subst (λ (news : List Pair). HasTaken old.local.store new.local.store
        (into old.access.local_puts news) result) (sym (chosen_all pairs))
        (taken_store old.access.local_puts old.local new.local pairs result l);
    second = subst (λ (news : List Pair). HasTaken old.second.store new.second.store
        (into old.access.second_puts news) result) (sym (chosen_all pairs))
        (taken_store old.access.second_puts old.second new.second pairs result s);
  }

  -- ---- the same, said of another answer

  pub gives_ok : {T U : Type 0} (ask : T → List Put) (tell : U → List Put)
      (old : Relay S R G H) (new : Option (Store S G) × Option (Store R H)) (pairs : List Pair)
      (v : T) (w : U) → tell w ≡ ask v → Gives ask old new pairs (Ok v)
      → Gives tell old new pairs (Ok w)
  gives_ok ask tell old new pairs v w same x = record {
    given = x.given;
    few = x.few;
    answered = subst (AnswersTo x.given) (sym same) x.answered;
    local_answers = λ is told. same ∙ x.local_answers is told;
    second_answers = λ is told. same ∙ x.second_answers is told;
    room = x.room;
    local = taken_ok old.local.store new.0 _ v w x.local;
    second = taken_ok old.second.store new.1 _ v w x.second;
  }

  -- and after an error, where there may have been more to put
  pub gives_err : {T U : Type 0} (ask : T → List Put) (tell : U → List Put)
      (old : Relay S R G H) (new : Option (Store S G) × Option (Store R H)) (xs ys : List Pair)
      (r : Result T CacheErr) (e : CacheErr) → Gives ask old new xs r
      → Gives tell old new (xs ++ ys) (Err e)
  gives_err {U = U} ask tell old new xs ys r e x =
      let news = chosen_few xs ys x.given x.few in
      let rest = puts_in (spaces_behind (spaces old) xs) ys in
      record {
        given = x.given;
        few = omega (arith, x.few, length-append xs ys);
        answered = tt;
        local_answers = λ is told. tt;
        second_answers = λ is told. tt;
        room = λ told. x.room told
            ∙ sym (take-append-le (length x.given) (stores old xs) rest
            (omega (arith, x.few, even xs (spaces old))))
            ∙ ap (take (length x.given)) (sym (puts_append xs ys (spaces old)));
        local = subst (λ (l : List Pair). HasTaken {T = U} old.local.store new.0
            (into old.access.local_puts l) (Err e)) (sym news)
            (taken_err old.local.store new.0 _ r e x.local);
        second = subst (λ (l : List Pair). HasTaken {T = U} old.second.store new.1
            (into old.access.second_puts l) (Err e)) (sym news)
            (taken_err old.second.store new.1 _ r e x.second);
      }

  -- ---- one and then another

  -- where the call came to the end
  given_whole : (old : Relay S R G H) (pairs : List Pair) (given puts : List Put)
      → AnswersTo given puts → length puts ≡ length pairs
      → given ≡ take (length given) (stores old pairs) → given ≡ stores old pairs
  given_whole old pairs given puts answered same room =
      room ∙ take_all (length given) (stores old pairs)
      (omega (arith, answers_even given puts answered, same, even pairs (spaces old)))

  module _ {T : Type 0} (ask : T → List Put) (start mid : Relay S R G H)
      (new : Option (Store S G) × Option (Store R H)) (xs ys : List Pair) (puts : List Put)
      (r : Result T CacheErr) (same : mid.access ≡ start.access) (long : length puts ≡ length xs)
      (spaced : TellPuts start.access G.tells H.tells
      → spaces mid ≡ spaces_behind (spaces start) xs)
      (x : Gives {T = Unit {0}} (λ v. puts) start (stores_of mid) xs (Ok tt))
      (y : Gives ask mid new ys r) where
    long_given : length x.given ≡ length xs
    long_given = answers_even x.given puts x.answered ∙ long

    room_then : TellPuts start.access G.tells H.tells → x.given ++ y.given
        ≡ take (length (x.given ++ y.given)) (stores start (xs ++ ys))
    room_then told =
        let first = given_whole start xs x.given puts x.answered long (x.room told) in
        let after = spaces_behind (spaces start) xs in
        let then : y.given ≡ take (length y.given) (puts_in after ys) =
        y.room (tell_as start.access mid.access same told)
        ∙ ap (λ (s : List Space). take (length y.given) (puts_in s ys)) (spaced told) in
        let lengths : length (stores start xs) + length y.given
        ≡ length (x.given ++ y.given) =
        omega (arith, length-append x.given y.given, ap length first) in
        (λ i. first i ++ then i)
        ∙ sym (take_both (stores start xs) (puts_in after ys) (length y.given))
        ∙ ap (λ (n : ℕ). take n (stores start xs ++ puts_in after ys)) lengths
        ∙ ap (take (length (x.given ++ y.given))) (sym (puts_append xs ys (spaces start)))

    news_local : into start.access.local_puts (chosen xs x.given)
        ++ into mid.access.local_puts (chosen ys y.given)
        ≡ into start.access.local_puts (chosen (xs ++ ys) (x.given ++ y.given))
    news_local =
        ap (λ (a : Access). into start.access.local_puts (chosen xs x.given)
        ++ into a.local_puts (chosen ys y.given)) same
        ∙ into_append start.access.local_puts (chosen xs x.given) (chosen ys y.given)
        ∙ ap (into start.access.local_puts)
        (sym (chosen_append xs ys x.given y.given long_given))

    news_second : into start.access.second_puts (chosen xs x.given)
        ++ into mid.access.second_puts (chosen ys y.given)
        ≡ into start.access.second_puts (chosen (xs ++ ys) (x.given ++ y.given))
    news_second =
        ap (λ (a : Access). into start.access.second_puts (chosen xs x.given)
        ++ into a.second_puts (chosen ys y.given)) same
        ∙ into_append start.access.second_puts (chosen xs x.given) (chosen ys y.given)
        ∙ ap (into start.access.second_puts)
        (sym (chosen_append xs ys x.given y.given long_given))

    both_are : puts ≡ x.given → IfOk r (λ v. ask v ≡ y.given)
        → IfOk r (λ v. puts ++ ask v ≡ x.given ++ y.given)
    both_are first then = IfOk-weaker r (λ v. ask v ≡ y.given)
        (λ v. puts ++ ask v ≡ x.given ++ y.given) (λ v is. λ i. first i ++ is i) then

    pub gives_then : Gives (λ v. puts ++ ask v) start new (xs ++ ys) r
    gives_then = record {
      given = x.given ++ y.given;
      few = omega (
        arith,
        x.few,
        y.few,
        length-append x.given y.given,
        length-append xs ys,
      );
      answered = IfOk-weaker r (λ v. AnswersTo y.given (ask v))
          (λ v. AnswersTo (x.given ++ y.given) (puts ++ ask v))
          (λ v is. answers_append x.given y.given puts (ask v) x.answered is) y.answered;
      local_answers = λ is told. both_are (x.local_answers is told)
          (y.local_answers (ap (λ (a : Access). a.local_puts) same ∙ is) told);
      second_answers = λ is told. both_are (x.second_answers is told)
          (y.second_answers (ap (λ (a : Access). a.local_puts) same ∙ is) told);
      room = room_then;
      local = subst (λ (l : List Pair). HasTaken start.local.store new.0 l r) news_local
          (taken_then start.local.store mid.local.store new.0 _ _ r
          (all_ok start.local.store mid.local.store _ tt x.local) y.local);
      second = subst (λ (l : List Pair). HasTaken start.second.store new.1 l r) news_second
          (taken_then start.second.store mid.second.store new.1 _ _ r
          (all_ok start.second.store mid.second.store _ tt x.second) y.second);
    }

  -- what is answered where each device that is put into tells
  pub gives_stores : {T : Type 0} (ask : T → List Put) (old : Relay S R G H)
      (new : Option (Store S G) × Option (Store R H)) (pairs : List Pair)
      (r : Result T CacheErr) → TellPuts old.access G.tells H.tells
      → IfOk r (λ v. length (ask v) ≡ length pairs) → Gives ask old new pairs r
      → IfOk r (λ v. ask v ≡ stores old pairs)
  gives_stores ask old new pairs (Err e) told long x = tt
  gives_stores ask old new pairs (Ok v) told long x =
      let lead : ask v ≡ x.given =
      lead_tells old.access.local_puts old.access.second_puts G.tells H.tells old.serves.puts
      told.local told.second x.local_answers x.second_answers in
      lead ∙ given_whole old pairs x.given (ask v) x.answered long (x.room told)
