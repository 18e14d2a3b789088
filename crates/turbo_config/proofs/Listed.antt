-- What is read has lists of globs that read.
use Rattle.std.proofs.Common.{◌≡◌, ◌==◌, ◌+◌, ℕ, Bool, true, false, cond, List, [], ◌∷◌, ◌++◌, Option, Some, None, Result, Ok, Err, Ordering, Less, Equal, Greater, refl, subst}
use Rattle.std.specs.Prelude.{not, unwrap_or}
use Rattle.std.specs.Option.{IfSome, option_copied}
use Rattle.std.specs.List.{AllByRecursion}
use Rattle.std.specs.Borrow.{Bor}
use Rattle.std.specs.Map.{lookup}
use Rattle.std.specs.Ordering.{match_ordering}
use Rattle.std.specs.BTreeMap.{insert_entry}
use Rattle.serde_json.specs.Data.{Data, Members, no_members, member}
use Rattle.key_table.specs.declared.row.Kind.{Kind}
use Rattle.key_table.specs.declared.row.Kind.TheVariants as shape
use Rattle.key_table.specs.Entry.{Entry as Key, entry_named}
use Rattle.json_view.specs.Pointer.{pointer_to}
use Rattle.rel_path.specs.Paths.{name_cmp}
use Rattle.glob_syntax.specs.declared.error.GlobErr.{GlobErr}
use Rattle.globs.specs.Lists.{fault_in, at_index, list_fault}
use Rattle.turbo_config.specs.declared.error.ConfigErr.{ConfigErr}
use Rattle.turbo_config.specs.declared.entry.Entry.{Entry}
use Rattle.turbo_config.specs.declared.entry.LogMode.{LogMode}
use Rattle.turbo_config.specs.declared.files.Globals.{Globals}
use Rattle.turbo_config.specs.declared.tasks.FileKind.{FileKind}
use Rattle.turbo_config.specs.declared.glob_fault.ListKind.{ListKind}
use Rattle.turbo_config.specs.declared.glob_fault.ListKind.TheVariants as kind
use Rattle.turbo_config.specs.declared.keys.TheConstants.{DEPENDS_ON, INPUTS, OUTPUTS, ENV, PASS, WITH, CACHE, PERSISTENT, INTERACTIVE, INTERRUPTIBLE, LOGS, ENV_MODE, GLOBAL_INPUTS, GLOBAL_ENV, GLOBAL_PASS}
use Rattle.turbo_config.specs.Answers.{◌>>=◌, unless}
use Rattle.turbo_config.specs.Keys.{task_keys, top_keys}
use Rattle.turbo_config.specs.Globs.{default_text, input_fault, glob_fault, fault_of, item_at, fault_of_item, first_glob_fault}
use Rattle.turbo_config.specs.Values.{flag_at, texts_at, list_at, members_at, log_mode_at, env_mode_at}
use Rattle.turbo_config.specs.Entries.{is_extends, without_extends, extended_array, array_over, no_keys, over, def_of}
use Rattle.turbo_config.specs.Reads.{AreGlobs, AreInputs, AreOfKind, EntryReads, DefReads, EntriesRead}
use Rattle.turbo_config.specs.Tasks.{list_kind, with_list, with_flag, with_mode, with_value, with_key, with_member, with_members, key_fault, task_pointer, entry_at, task_in}
use Rattle.turbo_config.specs.Files.{no_globals, with_top_key, with_top_member, with_top_members, globals_in}

-- ---- steps that were Ok

from_ok : {A B : Type 0} (r : Result A ConfigErr) (next : A → Result B ConfigErr) (out : B) → (r >>= next) ≡ Ok out → (a : A) × (r ≡ Ok a) × (next a ≡ Ok out)
from_ok (Ok a) next out e = (a, refl, e)
from_ok (Err x) next out e = absurd (cc)

from_unless : {A : Type 0} (fault : Option ConfigErr) (rest : Result A ConfigErr) (out : A) → unless fault rest ≡ Ok out → (fault ≡ None) × (rest ≡ Ok out)
from_unless None rest out e = (refl, e)
from_unless (Some x) rest out e = absurd (cc)

-- ---- one list

inputs_read : (at : List ℕ) (n : ℕ) (texts : List (List ℕ)) → first_glob_fault (fault_of kind.Inputs) at n texts ≡ None → AreInputs texts
inputs_read at n [] e = tt
inputs_read at n (text ∷ texts) e = by (input_fault text) refl (inputs_read at (n + 1) texts) e
  where
    by : (o : Option GlobErr) → input_fault text ≡ o → (first_glob_fault (fault_of kind.Inputs) at (n + 1) texts ≡ None → AreInputs texts) → fault_of_item (item_at at n) o (first_glob_fault (fault_of kind.Inputs) at (n + 1) texts) ≡ None → (input_fault text ≡ None) × AreInputs texts
    by None is rest e = (is, rest e)
    by (Some fault) is rest e = absurd (cc)

globs_read : (at : List ℕ) (n k : ℕ) (texts : List (List ℕ)) → first_glob_fault (fault_of kind.Globs) at n texts ≡ None → list_fault k texts ≡ None
unfolding glob_fault
globs_read at n k [] e = refl
globs_read at n k (text ∷ texts) e = by (fault_in text) (globs_read at (n + 1) (k + 1) texts) e
  where
    by : (o : Option GlobErr) → (first_glob_fault (fault_of kind.Globs) at (n + 1) texts ≡ None → list_fault (k + 1) texts ≡ None) → fault_of_item (item_at at n) o (first_glob_fault (fault_of kind.Globs) at (n + 1) texts) ≡ None → at_index k o (list_fault (k + 1) texts) ≡ None
    by None rest e = rest e
    by (Some fault) rest e = absurd (cc)

kind_reads : (k : ListKind) (at : List ℕ) (texts : List (List ℕ)) → first_glob_fault (fault_of k) at 0 texts ≡ None → AreOfKind k texts
kind_reads kind.Texts at texts e = tt
kind_reads kind.Globs at texts e = globs_read at 0 0 texts e
kind_reads kind.Inputs at texts e = inputs_read at 0 texts e

list_reads : (k : ListKind) (at : List ℕ) (d : Data) (texts : List (List ℕ)) → list_at k at d ≡ Ok texts → AreOfKind k texts
unfolding list_at
list_reads k at d texts e =
    let s = from_ok (texts_at at d) (λ read. unless (first_glob_fault (fault_of k) at 0 read) (Ok read)) texts e in
    let t = from_unless (first_glob_fault (fault_of k) at 0 s.0) (Ok s.0) texts s.2 in
    let same : s.0 ≡ texts = cc in
    subst (AreOfKind k) same (kind_reads k at s.0 t.0)

-- ---- one key of a task

list_by_place : (d i o v p w : Bool) (texts : List (List ℕ)) (e : Entry) → EntryReads e → AreOfKind (cond i kind.Inputs (cond o kind.Globs kind.Texts)) texts
    → EntryReads (cond d (record e { depends_on = Some texts }) (cond i (record e { inputs = Some texts }) (cond o (record e { outputs = Some texts }) (cond v (record e { env = Some texts }) (cond p (record e { pass = Some texts }) (cond w (record e { with_tasks = Some texts }) e))))))
list_by_place true i o v p w texts e h k = h
list_by_place false true o v p w texts e h k = (k, h.1)
list_by_place false false true v p w texts e h k = (h.0, k)
list_by_place false false false true p w texts e h k = h
list_by_place false false false false true w texts e h k = h
list_by_place false false false false false true texts e h k = h
list_by_place false false false false false false texts e h k = h

flag_by_place : (c p i r flag : Bool) (e : Entry) → EntryReads e
    → EntryReads (cond c (record e { cache = Some flag }) (cond p (record e { persistent = Some flag }) (cond i (record e { interactive = Some flag }) (cond r (record e { interruptible = Some flag }) e))))
flag_by_place true p i r flag e h = h
flag_by_place false true i r flag e h = h
flag_by_place false false true r flag e h = h
flag_by_place false false false true flag e h = h
flag_by_place false false false false flag e h = h

mode_by_place : (m : Bool) (mode : LogMode) (e : Entry) → EntryReads e → EntryReads (cond m (record e { logs = Some mode }) e)
mode_by_place true mode e h = h
mode_by_place false mode e h = h

list_keeps : (place : ℕ) (at : List ℕ) (d : Data) (e out : Entry) → EntryReads e → (list_at (list_kind place) at d >>= λ texts. Ok (with_list place texts e)) ≡ Ok out → EntryReads out
list_keeps place at d e out h r =
    let s = from_ok (list_at (list_kind place) at d) (λ texts. Ok (with_list place texts e)) out r in
    let same : with_list place s.0 e ≡ out = cc in
    subst EntryReads same (list_by_place (place == DEPENDS_ON) (place == INPUTS) (place == OUTPUTS) (place == ENV) (place == PASS) (place == WITH) s.0 e h (list_reads (list_kind place) at d s.0 s.1))

value_keeps : (k : Kind) (place : ℕ) (at : List ℕ) (d : Data) (e out : Entry) → EntryReads e → with_value k place at d e ≡ Ok out → EntryReads out
value_keeps shape.Flag place at d e out h r =
    let s = from_ok (flag_at at d) (λ flag. Ok (with_flag place flag e)) out r in
    let same : with_flag place s.0 e ≡ out = cc in
    subst EntryReads same (flag_by_place (place == CACHE) (place == PERSISTENT) (place == INTERACTIVE) (place == INTERRUPTIBLE) s.0 e h)
value_keeps shape.Choice place at d e out h r =
    let s = from_ok (log_mode_at at d) (λ mode. Ok (with_mode place mode e)) out r in
    let same : with_mode place s.0 e ≡ out = cc in
    subst EntryReads same (mode_by_place (place == LOGS) s.0 e h)
value_keeps shape.Word place at d e out h r = absurd (cc)
value_keeps shape.Words place at d e out h r = list_keeps place at d e out h r
value_keeps shape.Number place at d e out h r = absurd (cc)
value_keeps shape.Top place at d e out h r = absurd (cc)

key_keeps : (o : Option Key) (at : List ℕ) (d : Data) (e out : Entry) → EntryReads e → with_key o at d e ≡ Ok out → EntryReads out
key_keeps None at d e out h r = absurd (cc)
key_keeps (Some key) at d e out h r = value_keeps key.kind key.place at d e out h r

member_keeps : (at name : List ℕ) (d : Data) (e out : Entry) → EntryReads e → with_member at name d e ≡ Ok out → EntryReads out
unfolding with_member
member_keeps at name d e out h r = key_keeps (entry_named name task_keys) (pointer_to at name) d e out h r

members_keep : (at : List ℕ) (ms : Members) (e out : Entry) → EntryReads e → with_members at ms e ≡ Ok out → EntryReads out
members_keep at no_members e out h r = let same : e ≡ out = cc in subst EntryReads same h
members_keep at (member name d ms) e out h r =
    let s = from_ok (with_member at name d e) (with_members at ms) out r in
    members_keep at ms s.0 out (member_keeps at name d e s.0 h s.1) s.2

-- ---- a task

pub task_reads : (file : FileKind) (key : List ℕ) (d : Data) (out : Entry) → task_in file key d ≡ Ok out → EntryReads out
unfolding task_in
task_reads file key d out r =
    let t = from_unless (key_fault file (task_pointer key) key) (entry_at (task_pointer key) d) out r in
    let s = from_ok (members_at (task_pointer key) d) (λ members. with_members (task_pointer key) members no_keys) out t.1 in
    members_keep (task_pointer key) s.0 no_keys out (tt, tt) s.2

-- ---- all tasks

pub insert_reads : (key : List ℕ) (entry : Entry) (es : List (List ℕ × Entry)) → EntryReads entry → EntriesRead es → EntriesRead (insert_entry name_cmp es key entry)
insert_reads key entry [] h all = (h, tt)
insert_reads key entry (e ∷ es) h all = by (name_cmp key e.0) (insert_reads key entry es h all.1)
  where
    by : (o : Ordering) → EntriesRead (insert_entry name_cmp es key entry) → EntriesRead (match_ordering o ((key, entry) ∷ e ∷ es) ((e.0, entry) ∷ es) (e ∷ insert_entry name_cmp es key entry))
    by Less rest = (h, all)
    by Equal rest = (h, all.1)
    by Greater rest = (all.0, rest)

pub found_reads : (test : List ℕ → Bool) (es : List (List ℕ × Entry)) → EntriesRead es → IfSome (lookup test es) EntryReads
found_reads test [] all = tt
found_reads test (e ∷ es) all = by (test e.0) (found_reads test es all.1)
  where
    by : (b : Bool) → IfSome (lookup test es) EntryReads → IfSome (cond b (Some e.1) (lookup test es)) EntryReads
    by true rest = all.0
    by false rest = rest

-- ---- the definition

all-append : (P : List ℕ → Type 0) (xs ys : List (List ℕ)) → AllByRecursion P xs → AllByRecursion P ys → AllByRecursion P (xs ++ ys)
all-append P [] ys a b = b
all-append P (x ∷ xs) ys a b = (a.0, all-append P xs ys a.1 b)

all-without : (P : List ℕ → Type 0) (texts : List (List ℕ)) → AllByRecursion P texts → AllByRecursion P (without_extends texts)
all-without P [] all = tt
all-without P (text ∷ texts) all = by (is_extends text) (all-without P texts all.1)
  where
    by : (b : Bool) → AllByRecursion P (without_extends texts) → AllByRecursion P (cond (not b) (text ∷ without_extends texts) (without_extends texts))
    by true rest = rest
    by false rest = (all.0, rest)

all-extended : (P : List ℕ → Type 0) (start texts : List (List ℕ)) → AllByRecursion P start → AllByRecursion P texts → AllByRecursion P (extended_array start texts)
unfolding extended_array
all-extended P start [] s all = tt
all-extended P start (text ∷ texts) s all = by (is_extends text) (all-append P start (without_extends texts) s (all-without P texts all.1)) (all-extended P start texts s all.1)
  where
    by : (b : Bool) → AllByRecursion P (start ++ without_extends texts) → AllByRecursion P (extended_array start texts) → AllByRecursion P (cond b (start ++ without_extends texts) (text ∷ extended_array start texts))
    by true here later = here
    by false here later = (all.0, later)

array_reads : (P : List ℕ → Type 0) (default : List (List ℕ)) (below above : Option (List (List ℕ))) → AllByRecursion P default → IfSome below (AllByRecursion P) → IfSome above (AllByRecursion P) → IfSome (array_over default below above) (AllByRecursion P)
array_reads P default below None d b a = b
array_reads P default None (Some above) d b a = all-extended P default above d a
array_reads P default (Some below) (Some above) d b a = all-extended P below above b a

-- of globs the fault of a list tells a place; that there is none says so of each

each_glob : (k : ℕ) (texts : List (List ℕ)) → list_fault k texts ≡ None → AllByRecursion (λ text. fault_in text ≡ None) texts
each_glob k [] e = tt
each_glob k (text ∷ texts) e = by (fault_in text) refl (each_glob (k + 1) texts) e
  where
    by : (o : Option GlobErr) → fault_in text ≡ o → (list_fault (k + 1) texts ≡ None → AllByRecursion (λ text. fault_in text ≡ None) texts) → at_index k o (list_fault (k + 1) texts) ≡ None → (fault_in text ≡ None) × AllByRecursion (λ text. fault_in text ≡ None) texts
    by None is rest e = (is, rest e)
    by (Some fault) is rest e = absurd (cc)

all_globs : (k : ℕ) (texts : List (List ℕ)) → AllByRecursion (λ text. fault_in text ≡ None) texts → list_fault k texts ≡ None
all_globs k [] all = refl
all_globs k (text ∷ texts) all = rw all.0 (all_globs (k + 1) texts all.1)

some_each : (o : Option (List (List ℕ))) → IfSome o AreGlobs → IfSome o (AllByRecursion (λ text. fault_in text ≡ None))
some_each None h = tt
some_each (Some texts) h = each_glob 0 texts h

some_globs : (o : Option (List (List ℕ))) → IfSome o (AllByRecursion (λ text. fault_in text ≡ None)) → IfSome o AreGlobs
some_globs None h = tt
some_globs (Some texts) h = all_globs 0 texts h

default_is_input : AreInputs (default_text ∷ [])
unfolding input_fault
default_is_input = (refl, tt)

default_reads : (o : Option (List (List ℕ))) → IfSome o AreGlobs → AreGlobs (unwrap_or o [])
default_reads None h = refl
default_reads (Some texts) h = h

pub def_reads : (below above : Entry) → EntryReads below → EntryReads above → DefReads (def_of (over below above))
unfolding over def_of
def_reads below above b a = (
  array_reads (λ text. input_fault text ≡ None) (default_text ∷ []) below.inputs above.inputs default_is_input b.0 a.0,
  default_reads (array_over [] below.outputs above.outputs) (some_globs _ (array_reads (λ text. fault_in text ≡ None) [] below.outputs above.outputs tt (some_each _ b.1) (some_each _ a.1))),
)

-- ---- the global keys

global_by_place : (m i v p : Bool) (at : List ℕ) (d : Data) (g out : Globals) → AreGlobs g.inputs
    → cond m (env_mode_at at d >>= λ mode. Ok (record g { env_mode = Some mode })) (cond i (list_at kind.Globs at d >>= λ texts. Ok (record g { inputs = texts })) (cond v (list_at kind.Texts at d >>= λ texts. Ok (record g { env = texts })) (cond p (list_at kind.Texts at d >>= λ texts. Ok (record g { pass = texts })) (Ok g)))) ≡ Ok out → AreGlobs out.inputs
global_by_place true i v p at d g out h r =
    let s = from_ok (env_mode_at at d) (λ mode. Ok (record g { env_mode = Some mode })) out r in
    let same : record g { env_mode = Some s.0 } ≡ out = cc in
    subst (λ (o : Globals). AreGlobs o.inputs) same h
global_by_place false true v p at d g out h r =
    let s = from_ok (list_at kind.Globs at d) (λ texts. Ok (record g { inputs = texts })) out r in
    let same : record g { inputs = s.0 } ≡ out = cc in
    subst (λ (o : Globals). AreGlobs o.inputs) same (list_reads kind.Globs at d s.0 s.1)
global_by_place false false true p at d g out h r =
    let s = from_ok (list_at kind.Texts at d) (λ texts. Ok (record g { env = texts })) out r in
    let same : record g { env = s.0 } ≡ out = cc in
    subst (λ (o : Globals). AreGlobs o.inputs) same h
global_by_place false false false true at d g out h r =
    let s = from_ok (list_at kind.Texts at d) (λ texts. Ok (record g { pass = texts })) out r in
    let same : record g { pass = s.0 } ≡ out = cc in
    subst (λ (o : Globals). AreGlobs o.inputs) same h
global_by_place false false false false at d g out h r =
    let same : g ≡ out = cc in
    subst (λ (o : Globals). AreGlobs o.inputs) same h

top_key_keeps : (o : Option Key) (at : List ℕ) (d : Data) (g out : Globals) → AreGlobs g.inputs → with_top_key o at d g ≡ Ok out → AreGlobs out.inputs
top_key_keeps None at d g out h r = let same : g ≡ out = cc in subst (λ (o : Globals). AreGlobs o.inputs) same h
top_key_keeps (Some key) at d g out h r =
    global_by_place (key.place == ENV_MODE) (key.place == GLOBAL_INPUTS) (key.place == GLOBAL_ENV) (key.place == GLOBAL_PASS) at d g out h r

top_member_keeps : (name : List ℕ) (d : Data) (g out : Globals) → AreGlobs g.inputs → with_top_member name d g ≡ Ok out → AreGlobs out.inputs
unfolding with_top_member
top_member_keeps name d g out h r = top_key_keeps (entry_named name top_keys) (pointer_to [] name) d g out h r

top_members_keep : (ms : Members) (g out : Globals) → AreGlobs g.inputs → with_top_members ms g ≡ Ok out → AreGlobs out.inputs
top_members_keep no_members g out h r = let same : g ≡ out = cc in subst (λ (o : Globals). AreGlobs o.inputs) same h
top_members_keep (member name d ms) g out h r =
    let s = from_ok (with_top_member name d g) (with_top_members ms) out r in
    top_members_keep ms s.0 out (top_member_keeps name d g s.0 h s.1) s.2

pub globals_read : (d : Data) (out : Globals) → globals_in d ≡ Ok out → AreGlobs out.inputs
globals_read d out r =
    let s = from_ok (members_at [] d) (λ members. with_top_members members no_globals) out r in
    top_members_keep s.0 no_globals out refl s.2

-- ---- what a look-up lends

pub lent_reads : (o : Option (Bor Entry)) (found : Option Entry) → option_copied o ≡ found → IfSome found EntryReads → IfSome o (λ e. EntryReads e.now)
lent_reads None found e h = tt
lent_reads (Some entry) found e h = rw (← e) at h
