-- Frames that are to be appended, by the fields that hold them.
use Rattle.std.specs.Prelude.{◌≡◌, ℕ, Bool, true, ◌&&◌, nat_lt, List, [], ◌∷◌, map, length}
use Rattle.cache_api.specs.Memory.{capped}
use Rattle.record_log.specs.declared.kind.TheConstants.{CONTENT, LONG_RECORD}
use Rattle.record_log.specs.Kinds.{Entry, entry, is_known, limit_of, blobs_in}
use Rattle.record_log.specs.Frames.{opened}
use Rattle.blob_pool.specs.Contents.{contents_of}
use Rattle.pair_writer.specs.declared.frame.StagedFrame.{StagedFrame}
use Rattle.pair_writer.specs.declared.frame.StagedFrame.TheVariants.{Content, Record}

-- a frame without where its bytes lie in memory
abbrev pub staged_entry : StagedFrame → Entry
staged_entry (Content digest bytes) = entry CONTENT digest bytes.now
staged_entry (Record print text) = entry LONG_RECORD print text.items

abbrev pub staged_entries : List StagedFrame → List Entry
staged_entries frames = map staged_entry frames

-- a frame that may be appended by its kind and lengths
abbrev pub may_stand : Entry → Bool
may_stand e =
    is_known e.kind
    && (nat_lt (length e.key) (limit_of e.kind) && nat_lt (length e.value) (limit_of e.kind))

abbrev pub all_stand : List Entry → Bool
all_stand [] = true
all_stand (e ∷ es) = may_stand e && all_stand es

-- The digests and the bytes of their contents by number, and what they take. Each may be
-- appended by its kind and lengths.
pub record IsHeld (es : List Entry) (digests contents : List (List ℕ)) (size : ℕ) : Type 0 where
  pub digests_are : digests ≡ map (λ e. e.key) (blobs_in es)
  pub contents_are : contents ≡ contents_of es
  pub size_is : size ≡ capped (length (opened es))
  pub stand : all_stand es ≡ true
