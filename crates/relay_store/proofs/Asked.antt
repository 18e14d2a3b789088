-- From a store that is there to the part of a relay that keeps it.
use Rattle.std.proofs.Common.{◌≡◌, Bool, true, false, ℕ, ◌≤◌, List, [], ◌++◌, length, take, Option}
use Rattle.std.proofs.Common.{Some, Ok, Err, refl, sym, ◌∙◌, ap, subst, arith}
use Rattle.std.specs.Prelude.{Result, IsTrue, IfOk, IfErr, OnOk}
use Rattle.std.proofs.lemmas.List.{append-nil, take_all, take-append-le}
use Rattle.rel_path.specs.Causes.{Counts}
use Rattle.store_dev.specs.Device.{LeavesBetween}
use Rattle.store_dev.specs.declared.device.StoreDevice.{Ghosts}
use Rattle.cache_api.specs.declared.error.CacheErr.{CacheErr}
use Rattle.cache_api.specs.declared.error.CacheErr.TheVariants.{Full, Failed, OutOfMemory}
use Rattle.cache_api.specs.declared.hit.Hit.{Hit}
use Rattle.cache_api.specs.declared.puts.Puts.{Puts}
use Rattle.cache_api.specs.Cache.{CacheReads, HitsStay, Keeps, ArePut, AllAfter, StaysWhole}
use Rattle.cache_api.specs.Cache.{is_fault, IsFindErr}
use Rattle.cache_api.specs.Moments.{Moment, NoLater, Leaves, started, leaves_more}
use Rattle.cache_api.specs.Calls.{keeps_none, stay_none}
use Rattle.relay_store.specs.Rests.{OnlyNow, rest_in}
use Rattle.cache_api.specs.Pairs.{Pair, chosen, IsFirstPart, IsPartSince}
use Rattle.cache_api.proofs.Firsts.{first_added, part_added}
use Rattle.pair_frames.specs.Puts.{added}
use Rattle.artifact_store.specs.declared.store.Store.{Store}
use Rattle.artifact_store.specs.Pairs.{told_as}
use Rattle.artifact_store.specs.Store as store
use Rattle.relay_store.specs.declared.part.Part.{Part}
use Rattle.relay_store.specs.Access.{is_there}
use Rattle.relay_store.specs.Stores.{state_in, frames_in, cost_in, moment_in, images_in, stands_in}
use Rattle.relay_store.specs.Stores.{shows_in, stores_in}
use Rattle.relay_store.specs.Puts.{all_stored}
use Rattle.relay_store.specs.Parts.{state_of, stands, shows, moment_of, left_of, IsAsked, HasGrown}
use Rattle.relay_store.specs.Parts.{IsPutInto, into, MayGrow}
use Rattle.relay_store.proofs.Spaces.{chosen_all}

grown_by : (result : Result Puts CacheErr) (before news now : List Pair)
    → AllAfter result (length before) before news now → (n : ℕ) × (n ≤ length news) × (now ≡ before ++ take n news)
grown_by (Ok puts) before news now after = (
  length news,
  omega arith,
  after ∙ ap (λ (l : List Pair). before ++ l)
      (sym (take_all (length news) news (omega arith))),
)
grown_by (Err Failed) before news now after = first_added before news now after
grown_by (Err Full) before news now after = (0, omega arith, after ∙ sym (append-nil before))
grown_by (Err OutOfMemory) before news now after =
    (0, omega arith, after ∙ sym (append-nil before))

all_by : (result : Result Puts CacheErr) (before news now : List Pair)
    → AllAfter result (length before) before news now
    → OnOk result (now ≡ before ++ news)
all_by (Ok puts) before news now after = after
all_by (Err e) before news now after = tt

pub on_ok : {T E P : Type 0} (r : Result T E) → P → OnOk r P
on_ok (Ok x) p = p
on_ok (Err e) p = tt

module _ {S : Type 0} {G : Ghosts S} where
  abbrev clock : Option (Store S G) → Moment
  clock o = record { first = moment_in o; second = 0 }

  abbrev Left : (o p : Option (Store S G)) → (List ℕ → Type 0) → Type 0
  Left o p P = LeavesBetween NoLater (clock o) (clock p) (λ m c. images_in o m.first c)
      (λ m c. images_in p m.first c) P

  -- what stays in a store that may be missing
  record Stays (o p : Option (Store S G)) : Type 0 where
    pub stays : (hit : Hit) → stands_in o hit → stands_in p hit
    pub same : G.tells → (hit : Hit) → stands_in o hit → shows_in p hit ≡ shows_in o hit
    pub base : (state_in p).base ≡ (state_in o).base
    pub room : (state_in p).room ≤ (state_in o).room
    pub probes : (state_in o).probes ≤ (state_in p).probes
    pub there : is_there p ≡ is_there o

  record Answers {T : Type 0} (o p : Option (Store S G)) (result : Result T CacheErr)
      : Type 0 where
    pub whole : StaysWhole result (state_in o).whole (state_in p).whole
    pub answers : IfErr result IsFindErr
    pub cause : Counts is_fault (state_in o).faults (state_in p).faults result

  record Asked {T : Type 0} (o p : Option (Store S G)) (result : Result T CacheErr) : Type 0 where
    pub pairs : G.tells → (state_in p).pairs ≡ (state_in o).pairs
    pub cost_same : G.tells → (key : List ℕ) → cost_in p key ≡ cost_in o key
    pub room : G.tells → (state_in p).room ≡ (state_in o).room
    pub left : G.tells → Left o p (λ c. IsPartSince (length (state_in o).pairs) (state_in o).pairs
        (told_as (state_in o).base c))
    pub stays : Stays o p
    pub given : Answers o p result

  record PutIn (o p : Option (Store S G)) (news : List Pair) (result : Result Puts CacheErr)
      : Type 0 where
    pub pairs : G.tells → (n : ℕ) × (n ≤ length news)
        × ((state_in p).pairs ≡ (state_in o).pairs ++ take n news)
    pub left : G.tells → Left o p
        (λ c. IsFirstPart (state_in o).pairs news (told_as (state_in o).base c))
    pub stored : G.tells → IfOk result (λ puts. puts ≡ all_stored news)
    pub all : G.tells → OnOk result ((state_in p).pairs ≡ (state_in o).pairs ++ news)
    pub frames : G.tells → OnOk result
        (frames_in p ≡ frames_in o ++ added (state_in o).room (frames_in o) news)
    pub room : IfOk result (ArePut (state_in p).room news)
    pub stays : Stays o p
    pub given : Answers o p result

  -- ---- of a store that is there

  stays_some : (a b : Store S G) → HitsStay G.tells store.stands store.shows a b
      → Keeps (store.state_of a) (store.state_of b) → Stays (Some a) (Some b)
  stays_some a b hits keeps = record {
    stays = hits.stays;
    same = hits.same;
    base = keeps.base;
    room = keeps.room;
    probes = keeps.probes;
    there = refl;
  }

  -- ---- of a part

  -- the first pairs stay where pairs only come behind them
  first_same : (old new : Part S G) → new.first ≡ old.first
      → (G.tells → (more : List Pair)
      × ((state_in new.store).pairs ≡ (state_in old.store).pairs ++ more))
      → (told : G.tells) → take new.first (state_in new.store).pairs
      ≡ take old.first (state_in old.store).pairs
  first_same old new first grown told =
      let (more, is) = grown told in
      (λ i. take (first i) (is i))
      ∙ take-append-le old.first (state_in old.store).pairs more (old.few told)

  keeps_part : (old new : Part S G) → new.first ≡ old.first
      → (G.tells → (more : List Pair)
      × ((state_in new.store).pairs ≡ (state_in old.store).pairs ++ more))
      → Stays old.store new.store → Keeps (state_of old) (state_of new)
  keeps_part old new first grown stays = record {
    base = λ i. record {
      generation = stays.base i;
      first = λ told. first_same old new first grown told i;
    };
    room = stays.room;
    probes = stays.probes;
  }

  asked_part : {T : Type 0} (old new : Part S G) (result : Result T CacheErr)
      → new.first ≡ old.first
      → Asked old.store new.store result → IsAsked old new result
  asked_part old new result first x = record {
    read = record {
      reads = record {
        pairs = x.pairs;
        lasting = λ told. ap (λ (l : List Pair). length l) (x.pairs told);
        sure = x.room;
        cost_same = x.cost_same;
        hits = record { stays = x.stays.stays; same = x.stays.same };
        left = x.left;
        keeps = keeps_part old new first
            (λ told. ([], x.pairs told ∙ sym (append-nil (state_in old.store).pairs))) x.stays;
      };
      first = first;
      there = x.stays.there;
    };
    whole = x.given.whole;
    answers = x.given.answers;
    cause = x.given.cause;
  }

  put_part : (old new : Part S G) (news : List Pair) (result : Result Puts CacheErr)
      → new.first ≡ old.first → PutIn old.store new.store news result
      → IsPutInto old new news result
  put_part old new news result first x = record {
    grown = record {
      pairs = x.pairs;
      left = x.left;
      hits = record { stays = x.stays.stays; same = x.stays.same };
      keeps = keeps_part old new first
          (λ told. let (n, le, is) = x.pairs told in (take n news, is)) x.stays;
      first = first;
      there = x.stays.there;
    };
    stored = x.stored;
    all = x.all;
    frames = x.frames;
    room = x.room;
    whole = x.given.whole;
    answers = x.given.answers;
    cause = x.given.cause;
  }

  -- ---- a call of a store that reads it

  pub asked : {T : Type 0} (old new : Part S G) (a b : Store S G) (result : Result T CacheErr)
      → old.store ≡ Some a → new.store ≡ Some b → new.first ≡ old.first
      → CacheReads G.tells store.state_of store.cost_of store.stands store.shows store.moment_of
      store.left_of told_as a b
      → StaysWhole result (store.state_of a).whole (store.state_of b).whole
      → IfErr result IsFindErr
      → Counts is_fault (store.state_of a).faults (store.state_of b).faults result
      → IsAsked old new result
  asked old new a b result was now first reads whole answers cause =
      let some : Asked (Some a) (Some b) result = record {
        pairs = reads.pairs;
        cost_same = reads.cost_same;
        room = reads.sure;
        left = reads.left;
        stays = stays_some a b reads.hits reads.keeps;
        given = record { whole = whole; answers = answers; cause = cause };
      } in
      asked_part old new result first
      (subst (λ (o : Option (Store S G)). Asked o new.store result) (sym was)
      (subst (λ (p : Option (Store S G)). Asked (Some a) p result) (sym now) some))

  -- ---- a call of a store that puts pairs, for all of which there is room

  stored_by : (result : Result Puts CacheErr) (a : Store S G) (news : List Pair)
      → store.stores a news ≡ all_stored news → IfOk result (λ puts. puts ≡ store.stores a news)
      → IfOk result (λ puts. puts ≡ all_stored news)
  stored_by (Ok puts) a news fit is = is ∙ fit
  stored_by (Err e) a news fit is = tt

  pub put_in : (old new : Part S G) (a b : Store S G) (news : List Pair)
      (result : Result Puts CacheErr)
      → old.store ≡ Some a → new.store ≡ Some b → new.first ≡ old.first
      → (G.tells → stores_in old.store news ≡ all_stored news)
      → (G.tells → IfOk result (λ puts. puts ≡ store.stores a news))
      → IfOk result (ArePut (store.state_of b).room news)
      → (G.tells → OnOk result (store.frames_of b ≡ store.frames_of a
      ++ added (store.state_of a).room (store.frames_of a) news))
      → (G.tells → AllAfter result (store.state_of a).lasting (store.state_of a).pairs
      (chosen news (store.stores a news)) (store.state_of b).pairs)
      → (G.tells → Leaves store.moment_of store.left_of a b
      (λ image. IsPartSince (store.state_of a).lasting ((store.state_of a).pairs
      ++ chosen news (store.stores a news)) (told_as (store.state_of a).base image)))
      → HitsStay G.tells store.stands store.shows a b
      → Keeps (store.state_of a) (store.state_of b)
      → StaysWhole result (store.state_of a).whole (store.state_of b).whole
      → IfErr result IsFindErr
      → Counts is_fault (store.state_of a).faults (store.state_of b).faults result
      → IsPutInto old new news result
  put_in old new a b news result was now first fit outcome room frames pairs left hits keeps whole
      answers cause =
      let fits : G.tells → store.stores a news ≡ all_stored news =
      λ told. subst (λ (o : Option (Store S G)). stores_in o news ≡ all_stored news) was
      (fit told) in
      let all : G.tells → chosen news (store.stores a news) ≡ news =
      λ told. ap (chosen news) (fits told) ∙ chosen_all news in
      let after : G.tells → AllAfter result (store.state_of a).lasting (store.state_of a).pairs news
      (store.state_of b).pairs =
      λ told. subst (λ (l : List Pair). AllAfter result (store.state_of a).lasting
      (store.state_of a).pairs l (store.state_of b).pairs) (all told) (pairs told) in
      let some : PutIn (Some a) (Some b) news result = record {
        pairs = λ told. grown_by result _ news _ (after told);
        left = λ told. leaves_more store.moment_of store.left_of a b _ _ (left told)
            (λ image part. subst (λ (l : List Pair). IsFirstPart (store.state_of a).pairs l
            (told_as (store.state_of a).base image)) (all told)
            (part_added (store.state_of a).pairs (chosen news (store.stores a news)) _ part));
        stored = λ told. stored_by result a news (fits told) (outcome told);
        all = λ told. all_by result _ news _ (after told);
        frames = frames;
        room = room;
        stays = stays_some a b hits keeps;
        given = record { whole = whole; answers = answers; cause = cause };
      } in
      put_part old new news result first
      (subst (λ (o : Option (Store S G)). PutIn o new.store news result) (sym was)
      (subst (λ (p : Option (Store S G)). PutIn (Some a) p news result) (sym now) some))

-- ---- a store that is not put into, or not yet

module _ {S : Type 0} {G : Ghosts S} (only : OnlyNow G) (p : Part S G)
    (whole : IsTrue (state_of p).whole) where
  pub grown_none : (news : List Pair) → HasGrown p p news
  grown_none news = record {
    pairs = λ told. (0, omega arith, sym (append-nil (state_in p.store).pairs));
    left = λ told. started moment_of left_of p
        (λ image. IsFirstPart (state_in p.store).pairs news
        (told_as (state_in p.store).base image))
        (λ image left. (
          0,
          omega arith,
          rest_in only p.store told whole image left
              ∙ ap (λ (l : List Pair). Some l) (sym (append-nil (state_in p.store).pairs)),
        ));
    hits = stay_none G.tells stands shows p;
    keeps = keeps_none (state_of p);
    first = refl;
    there = refl;
  }

  none_all : (puts : Bool) (news : List Pair) (result : Result Puts CacheErr)
      → OnOk result (puts ≡ false)
      → OnOk result ((state_in p.store).pairs ≡ (state_in p.store).pairs ++ into puts news)
  none_all true news (Ok v) other = absurd (cc)
  none_all false news (Ok v) other = sym (append-nil (state_in p.store).pairs)
  none_all puts news (Err e) other = tt

  none_frames : (puts : Bool) (news : List Pair) (result : Result Puts CacheErr)
      → OnOk result (puts ≡ false)
      → puts ≡ true → OnOk result (frames_in p.store ≡ frames_in p.store
      ++ added (state_of p).room (frames_in p.store) news)
  none_frames puts news (Ok v) other is = absurd (cc)
  none_frames puts news (Err e) other is = tt

  none_whole : (result : Result Puts CacheErr)
      → OnOk result ((state_of p).whole ≡ (state_of p).whole)
  none_whole (Ok v) = refl
  none_whole (Err e) = tt

  pub may_none : (puts : Bool) (news : List Pair) (result : Result Puts CacheErr)
      → OnOk result (puts ≡ false)
      → MayGrow puts p p news result
  may_none puts news result other = record {
    grown = grown_none (into puts news);
    all = λ told. none_all puts news result other;
    frames = λ is told. none_frames puts news result other is;
    whole = none_whole result;
  }
