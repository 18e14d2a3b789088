-- Which packages of a workspace depend on which, and which names they need from outside (npm docs, "workspaces" and "package.json").
use Rattle.std.specs.Prelude.{ℕ, ◌&&◌, ◌||◌, Bool, false, not, if◌then◌else◌, List, [], ◌∷◌, ◌++◌, Option, Some, None, is_some, Result, Ok, Err, map, filter, nat_eq, bytes_eq, codes}
use Rattle.std.specs.List.{list_any, starts_with}
use Rattle.semver.specs.declared.error.Error.{Error}
use Rattle.semver.specs.Parse.{version_parts}
use Rattle.npm_range.specs.Grammar.{range}
use Rattle.npm_range.specs.Limits.{Bound, Release, admits}
use Rattle.rel_path.specs.Paths.{name_cmp}
use Rattle.manifest.specs.declared.manifest.Manifest.{Manifest}
use Rattle.workspaces.specs.declared.member.Package.{Package}
use Rattle.workspaces.specs.declared.needs.Needs.{Needs}
use Rattle.workspaces.specs.Lists.{ascending}

-- ---- the text of a dependency, and the version of a package

-- `*`, and texts that name a package of the workspace whatever its version is
abbrev pub is_local : List ℕ → Bool
is_local text = bytes_eq text (codes "*") || (starts_with nat_eq text (codes "workspace:") || (starts_with nat_eq text (codes "file:") || starts_with nat_eq text (codes "link:")))

abbrev pub release_from : Result (ℕ × ℕ × ℕ × List ℕ × List ℕ) Error → Option Release
release_from (Ok parts) = Some (parts.0, parts.1, parts.2, parts.3)
release_from (Err e) = None

-- the release that a version names, where there is one and SemVer reads it
abbrev pub release_in : Option (List ℕ) → Option Release
release_in None = None
release_in (Some version) = release_from (version_parts version)

abbrev pub admits_in : Option (List (List Bound)) → Option Release → Bool
admits_in None release = false
admits_in (Some bounds) None = false
admits_in (Some bounds) (Some release) = admits bounds release

-- a dependency of this text is on the package of this version: it names a package of the workspace, or is a range that admits the version
unfoldable pub is_edge : List ℕ → Option (List ℕ) → Bool
is_edge text version = is_local text || admits_in (range text) (release_in version)

-- ---- the names in a manifest

-- the text that stands by a name
abbrev pub text_by : List ℕ → List (List ℕ × List ℕ) → Option (List ℕ)
text_by name [] = None
text_by name (pair ∷ pairs) = if bytes_eq pair.0 name then Some pair.1 else text_by name pairs

abbrev pub has_name : List ℕ → List (List ℕ × List ℕ) → Bool
has_name name pairs = is_some (text_by name pairs)

abbrev pub or_else : Option (List ℕ) → Option (List ℕ) → Option (List ℕ)
or_else None later = later
or_else (Some text) later = Some text

-- the text by which a manifest depends on a name: `optionalDependencies` counts first, then `dependencies`, then `devDependencies`
unfoldable pub dep_text : Manifest → List ℕ → Option (List ℕ)
dep_text m name = or_else (text_by name m.optional) (or_else (text_by name m.deps) (text_by name m.dev))

-- a peer; a name in `dependencies` is none
abbrev pub is_peer : Manifest → List ℕ → Bool
is_peer m name = has_name name m.peer && not (has_name name m.deps)

-- ---- edges

abbrev pub fits : Option (List ℕ) → Option (List ℕ) → Bool
fits None version = false
fits (Some text) version = is_edge text version

-- the manifest's text for the package's name makes an edge to the package
unfoldable pub links : Manifest → Package → Bool
links m q = fits (dep_text m q.name) q.manifest.version

-- the manifest of an owner of this name has an edge to the package
unfoldable pub edge_from : List ℕ → Manifest → Package → Bool
edge_from own m q = not (bytes_eq own q.name) && links m q

-- one owner depends on a package; none on itself
abbrev pub has_edge : Package → Package → Bool
has_edge p q = edge_from p.name p.manifest q

-- ---- names from outside

-- the name makes an edge to one of the packages
unfoldable pub is_inner : List Package → Manifest → List ℕ → Bool
is_inner packages m name = list_any (λ q. bytes_eq q.name name && links m q) packages

-- a dependency that makes no edge, or a peer
unfoldable pub is_outer : List Package → Manifest → List ℕ → Bool
is_outer packages m name = is_peer m name || (is_some (dep_text m name) && not (is_inner packages m name))

-- what may be missing: optional dependencies and peers
abbrev pub is_soft : Manifest → List ℕ → Bool
is_soft m name = has_name name m.optional || is_peer m name

abbrev pub names_by : List (List ℕ × List ℕ) → List (List ℕ)
names_by pairs = map (λ pair. pair.0) pairs

-- the names in the four maps
abbrev pub names_in : Manifest → List (List ℕ)
names_in m = names_by m.optional ++ (names_by m.deps ++ (names_by m.dev ++ names_by m.peer))

abbrev pub is_hard_need : List Package → Manifest → List ℕ → Bool
is_hard_need packages m name = is_outer packages m name && not (is_soft m name)

abbrev pub is_soft_need : List Package → Manifest → List ℕ → Bool
is_soft_need packages m name = is_outer packages m name && is_soft m name

unfoldable pub hard_names : List Package → Manifest → List (List ℕ)
hard_names packages m = ascending name_cmp (filter (is_hard_need packages m) (names_in m))

unfoldable pub soft_names : List Package → Manifest → List (List ℕ)
soft_names packages m = ascending name_cmp (filter (is_soft_need packages m) (names_in m))

-- the names that a manifest needs from outside
abbrev pub needs_of : List Package → Manifest → Needs
needs_of packages m = record { hard = hard_names packages m; soft = soft_names packages m }
