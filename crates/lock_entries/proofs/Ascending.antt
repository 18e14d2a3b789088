-- The locations of the entries ascend, as the keys of `packages` do.
use Rattle.std.proofs.Common.{◌≡◌, ℕ, List, [], ◌∷◌, Result, Ok, Err, Less, refl, String, Global, string_bytes}
use Rattle.std.specs.List.{AllByRecursion}
use Rattle.std.specs.List.Sorted.{IsStrictlySortedBy}
use Rattle.std.specs.String.{string_cmp}
use Rattle.std.specs.Map.{keys_of}
use Rattle.serde_json.specs.Data.{Data}
use Rattle.serde_json.specs.View.{view, members_view}
use Rattle.serde_json.specs.declared.value.Value.{Value}
use Rattle.json_view.specs.declared.error.JsonErr.{JsonErr}
use Rattle.rel_path.specs.Paths.{name_cmp}
use Rattle.std.proofs.Common.{Option}
use Rattle.lock_entries.specs.declared.entry.Name.{Name}
use Rattle.lock_entries.specs.declared.entry.Entry.{Entry}
use Rattle.lock_entries.specs.Entries.{entry_of, entry_with, with_entry, entries_of}
use Rattle.lock_entries.specs.Lockfile.{locations, Ascend}

-- an entry that is read has its location
located : (location : List ℕ) (r : Result (Option (List ℕ) × List Name) JsonErr) (e : Entry) → entry_with location r ≡ Ok e → e.location ≡ location
located location (Ok parts) e is = cc
located location (Err x) e is = absurd (cc)

pub entry_of-location : (location : List ℕ) (d : Data) (e : Entry) → entry_of location d ≡ Ok e → e.location ≡ location
unfolding entry_of
entry_of-location location d e is = located location _ e is

all_with : (P : List ℕ → Type 0) (r : Result Entry JsonErr) (es : List Entry) → ((e : Entry) → r ≡ Ok e → P e.location) → AllByRecursion P (locations es) → AllByRecursion P (locations (with_entry r es))
all_with P (Ok e) es here more = (here e refl, more)
all_with P (Err x) es here more = more

all_read : (P : List ℕ → Type 0) (ms : List (String Global × Value)) → AllByRecursion (λ k. P (string_bytes k)) (keys_of ms) → AllByRecursion P (locations (entries_of (members_view ms)))
all_read P [] all = tt
all_read P (m ∷ ms) all = all_with P (entry_of (string_bytes m.0) (view m.1)) _ (λ e is. rw (entry_of-location _ _ e is) all.0) (all_read P ms all.1)

ascend_with : (k : List ℕ) (r : Result Entry JsonErr) (es : List Entry) → ((e : Entry) → r ≡ Ok e → e.location ≡ k) → AllByRecursion (λ l. name_cmp k l ≡ Less) (locations es) → Ascend es → Ascend (with_entry r es)
unfolding IsStrictlySortedBy
ascend_with k (Ok e) es here above more = (rw (here e refl) above, more)
ascend_with k (Err x) es here above more = more

pub entries-Ascend : (ms : List (String Global × Value)) → IsStrictlySortedBy string_cmp (keys_of ms) → Ascend (entries_of (members_view ms))
unfolding IsStrictlySortedBy
entries-Ascend [] sorted = tt
entries-Ascend (m ∷ ms) sorted =
    ascend_with (string_bytes m.0) (entry_of (string_bytes m.0) (view m.1)) _ (λ e is. entry_of-location _ _ e is) (all_read (λ l. name_cmp (string_bytes m.0) l ≡ Less) ms sorted.0) (entries-Ascend ms sorted.1)
