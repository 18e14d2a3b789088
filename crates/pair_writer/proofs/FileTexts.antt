-- The bytes of the files of a key, file by file.
use Rattle.std.proofs.Common.{◌≡◌, ℕ, zero, suc, ◌+◌, ◌-◌, ◌<◌, ◌≤◌, Bool, true, cond, List, [], ◌∷◌, ◌++◌, map, length, take, drop, get_or, Some, None, refl, sym, ◌∙◌, ap, arith, append_assoc, length-append}
use Rattle.std.specs.Prelude.{bytes_eq}
use Rattle.std.proofs.lemmas.Bool.{and_parts}
use Rattle.std.proofs.lemmas.List.{append-nil, map-append, length-map, get_or-map, take_at, drop_at}
use Rattle.std.proofs.Math.Seq.{get_or-append_seam}
use Rattle.codes.specs.Codes.{Taken, took, then_read, read_str, read_items}
use Rattle.cache_api.specs.Artifacts.{File}
use Rattle.pair_frames.specs.declared.limits.TheConstants.{MAGIC_BYTES}
use Rattle.pair_frames.specs.Runs.{NamedBytes, read_files, key_magic}
use Rattle.pair_writer.specs.Lists.{is_taken}
use Rattle.pair_writer.specs.FileTexts.{texts_read, key_texts}
use Rattle.pair_writer.proofs.Files.{read_named, Lists, IsListed, listed_next}

abbrev texts_of : List NamedBytes → List (List ℕ)
texts_of files = map (λ (file : NamedBytes). file.1) files

-- ---- files that are read behind others

-- there are more, and these stay in front
abbrev Begins : List NamedBytes → List NamedBytes → Type 0
Begins files all = (behind : List NamedBytes) × (all ≡ files ++ behind)

next_begins : (n : ℕ) (files all : List NamedBytes) (more : List ℕ) (t : Taken NamedBytes)
    → ((fs : List NamedBytes) (rest : List ℕ) → read_items read_named fs n rest ≡ took all more → Begins fs all)
    → then_read t (λ f r. read_items read_named (files ++ f ∷ []) n r) ≡ took all more
    → Begins files all
next_begins n files all more None next is = absurd cc
next_begins n files all more (Some p) next is =
    let (behind, same) = next (files ++ p.0 ∷ []) p.1 is in
    (p.0 ∷ behind, same ∙ append_assoc files (p.0 ∷ []) behind)

items_begin : (n : ℕ) (files all : List NamedBytes) (more rest : List ℕ)
    → read_items read_named files n rest ≡ took all more → Begins files all
items_begin zero files all more rest is =
    let same : (files, rest) ≡ (all, more) = cc in (
      [],
      ap (λ (q : List NamedBytes × List ℕ). q.0) (sym same) ∙ sym (append-nil files),
    )
items_begin (suc n) files all more rest is =
    next_begins n files all more (read_named rest) (λ fs r. items_begin n fs all more r) is

-- ---- the file with that number

seam : (files behind : List NamedBytes) (f : NamedBytes) (h : List ℕ → List ℕ) (i : ℕ) (d : List ℕ)
    → length files ≡ i
    → get_or (map h (texts_of ((files ++ f ∷ []) ++ behind))) i d ≡ h f.1
seam files behind f h i d at =
    let own = λ (g : NamedBytes). h g.1 in
    ap (λ (l : List NamedBytes). get_or (map h (texts_of l)) i d) (append_assoc files (f ∷ []) behind)
    ∙ ap (λ (l : List (List ℕ)). get_or (map h l) i d) (map-append (λ (g : NamedBytes). g.1) files (f ∷ behind))
    ∙ ap (λ (l : List (List ℕ)). get_or l i d) (map-append h (texts_of files) (f.1 ∷ texts_of behind))
    ∙ ap (λ (k : ℕ). get_or (map h (texts_of files) ++ h f.1 ∷ map h (texts_of behind)) k d)
    (sym at ∙ sym (length-map files (λ (g : NamedBytes). g.1)) ∙ sym (length-map (texts_of files) h))
    ∙ get_or-append_seam (map h (texts_of files)) (h f.1) (map h (texts_of behind)) d

taken_some : (t : Taken (List NamedBytes)) → is_taken t ≡ true
    → (all : List NamedBytes) × (end : List ℕ) × (t ≡ took all end)
taken_some None taken = absurd cc
taken_some (Some p) taken = (p.0, p.1, refl)

-- the members so far of those that a key lists
listed_texts : (key : List ℕ) (count i : ℕ) (rest : List ℕ) (files : List NamedBytes)
    → Lists key → IsListed key count i rest files
    → (behind : List NamedBytes) × (key_texts key ≡ texts_of (files ++ behind))
listed_texts key count i rest files lists x =
    let read = read_files (drop MAGIC_BYTES key) in
    let both = and_parts (bytes_eq (take MAGIC_BYTES key) key_magic) (is_taken read) lists in
    let (all, end, is) = taken_some read both.1 in
    let (behind, same) = items_begin (count - i) files all end rest (sym x.is ∙ is) in (
      behind,
      ap (λ (b : Bool). cond b (texts_read read) []) both.0
          ∙ ap texts_read is
          ∙ ap texts_of same,
    )

-- the last of them has the digest with its number
pub record IsDigest (digests : List (List ℕ)) (i : ℕ) (digest : List ℕ) : Type 0 where
  pub inside : i < length digests
  pub is : (d : List ℕ) → get_or digests i d ≡ digest

listed_digest : (h : List ℕ → List ℕ) (key : List ℕ) (count i : ℕ) (rest : List ℕ)
    (files : List NamedBytes) (f : NamedBytes) (digests : List (List ℕ)) → Lists key
    → IsListed key count (i + 1) rest (files ++ f ∷ []) → digests ≡ map h (key_texts key)
    → IsDigest digests i (h f.1)
listed_digest h key count i rest files f digests lists x are =
    let (behind, same) = listed_texts key count (i + 1) rest (files ++ f ∷ []) lists x in
    let now = files ++ f ∷ [] in
    let is = are ∙ ap (map h) same in
    let at : length files ≡ i = omega (arith, x.many, length-append files (f ∷ [])) in
    record {
      inside =
          omega (
            arith,
            ap length is,
            length-map (texts_of (now ++ behind)) h,
            length-map (now ++ behind) (λ (g : NamedBytes). g.1),
            length-append now behind,
            x.many,
          );
      is = λ d. ap (λ (l : List (List ℕ)). get_or l i d) is ∙ seam files behind f h i d at;
    }

pub member_digest : (h : List ℕ → List ℕ) (key : List ℕ) (count i : ℕ)
    (rest name behind bytes more : List ℕ) (files : List NamedBytes) (digests : List (List ℕ))
    → Lists key → IsListed key count i rest files → i < count → read_str rest ≡ took name behind
    → read_str behind ≡ took bytes more → digests ≡ map h (key_texts key)
    → IsDigest digests i (h bytes)
member_digest h key count i rest name behind bytes more files digests lists x lt first second are =
    listed_digest h key count i more files (name, bytes) digests lists
    (listed_next key count i rest name behind bytes more files x lt first second) are

-- the digest of a file of an artifact
pub file_digest : (h : List ℕ → List ℕ) (all files : List File) (n : ℕ) (file : File)
    (digests : List (List ℕ)) → (n < length all) × (file ≡ get_or all n file) → all ≡ files
    → digests ≡ map h (map (λ f. f.1) files) → IsDigest digests n (h file.1)
file_digest h all files n file digests at same are =
    let own = λ (f : File). f.1 in
    let is : digests ≡ map h (map own all) =
    are ∙ ap (λ (l : List File). map h (map own l)) (sym same) in
    let many = length-map all own in
    record {
      inside = omega (arith, ap length is, length-map (map own all) h, many, at.0);
      is = λ d.
          ap (λ (l : List (List ℕ)). get_or l n d) is
          ∙ get_or-map h (map own all) n [] d (omega (arith, many, at.0))
          ∙ ap h (get_or-map own all n file [] at.0 ∙ ap own (sym at.1));
    }

-- ---- those of a key and those of an artifact

-- the digests of both, cut where those of the artifact begin
pub record AreOfBoth (h : List ℕ → List ℕ) (listed files digests : List (List ℕ)) (n : ℕ)
    : Type 0 where
  pub front : take n digests ≡ map h listed
  pub back : drop n digests ≡ map h files

pub no_more : (h : List ℕ → List ℕ) (listed files digests : List (List ℕ))
    → digests ≡ map h (listed ++ files) → length files ≤ length digests
no_more h listed files digests is =
    omega (arith, ap length is, length-map (listed ++ files) h, length-append listed files)

pub of_both : (h : List ℕ → List ℕ) (listed files digests : List (List ℕ)) (n : ℕ)
    → digests ≡ map h (listed ++ files) → n + length files ≡ length digests
    → AreOfBoth h listed files digests n
of_both h listed files digests n is many =
    let split = is ∙ map-append h listed files in
    let at : length (map h listed) ≡ n =
    omega (
      arith,
      many,
      ap length split,
      length-append (map h listed) (map h files),
      length-map files h,
    ) in
    record {
      front = ap (take n) split ∙ take_at (map h listed) (map h files) n at;
      back = ap (drop n) split ∙ drop_at (map h listed) (map h files) n at;
    }
