-- The key text of a listing: all that the results of its tasks depend on, as bytes (a format of this project's own). A
-- text stands behind its length, a list behind its count, and a number is four bytes, the least first.
use Rattle.std.specs.Prelude.{◌≡◌, ℕ, List, ◌++◌, codes}
use Rattle.std.specs.List.{join_with_byte}
use Rattle.rel_path.specs.Paths.{Path, AreNames}
use Rattle.codes.specs.Codes.{word, IsWord, str, IsShort, list, IsList, Each, both, AreBoth}
use Rattle.globs.specs.declared.out_set.OutSet.{OutSet}
use Rattle.listing.specs.declared.part.Part.{Part}
use Rattle.listing.specs.declared.part.Listing.{Listing}

-- the components of a path with a slash between each two, and nothing for the root folder
abbrev pub path_text : Path → List ℕ
path_text path = join_with_byte 47 path

unfoldable pub path_code : Path → List ℕ
path_code path = str (path_text path)

-- a name and its value
abbrev pub pair_code : List ℕ × List ℕ → List ℕ
pair_code = both str str

-- a path and the bytes of its file
abbrev pub file_code : Path × List ℕ → List ℕ
file_code = both path_code str

-- the globs of the task as written, and those of each other configured task of the package
unfoldable pub out_set_code : OutSet → List ℕ
out_set_code outs = list str outs.mine ++ list (list str) outs.others

unfoldable pub part_code : Part → List ℕ
part_code part = str part.package ++ (path_code part.folder ++ (str part.task ++ (list str part.scripts ++ (list str part.args ++ (out_set_code part.outs ++ (list pair_code part.env ++ (list path_code part.inputs ++ (list pair_code part.externals ++ list word part.deps))))))))

-- `TURBKEY1`, the files, and the parts
unfoldable pub key_text : Listing → List ℕ
key_text listing = codes "TURBKEY1" ++ (list file_code listing.files ++ list part_code listing.parts)

-- ---- what a key text can tell: each text and each list has fewer than 2 ^ 32 bytes or members

-- a path, which is known by its text since its components are names
pub record PathFits (path : Path) : Type 0 where
  pub text : IsShort (path_text path)
  pub names : AreNames path

pub record OutSetFits (outs : OutSet) : Type 0 where
  pub mine : IsList IsShort outs.mine
  pub others : IsList (IsList IsShort) outs.others

pub record PartFits (part : Part) : Type 0 where
  pub «package» : IsShort part.package
  pub folder : PathFits part.folder
  pub task : IsShort part.task
  pub scripts : IsList IsShort part.scripts
  pub args : IsList IsShort part.args
  pub outs : OutSetFits part.outs
  pub env : IsList (AreBoth IsShort IsShort) part.env
  pub inputs : IsList PathFits part.inputs
  pub externals : IsList (AreBoth IsShort IsShort) part.externals
  pub deps : IsList IsWord part.deps

pub record Fits (listing : Listing) : Type 0 where
  pub files : IsList (AreBoth PathFits IsShort) listing.files
  pub parts : IsList PartFits listing.parts

-- the output set of a part has the part's folder, which is written once
abbrev pub IsAtHome : Part → Type 0
IsAtHome part = part.outs.folder ≡ part.folder

-- a part that is known by its bytes
pub record IsPart (part : Part) : Type 0 where
  pub fits : PartFits part
  pub home : IsAtHome part

-- two listings that fit, with equal key texts, are equal
abbrev pub KeyTextsDiffer : Type 0
KeyTextsDiffer = (x y : Listing) → Fits x → Fits y → Each IsAtHome x.parts → Each IsAtHome y.parts → key_text x ≡ key_text y → x ≡ y
