-- The name of a package is one component.
use Rattle.std.proofs.Common.{◌≡◌, ℕ, ◌/◌, false, refl, arith}
use Rattle.std.specs.Prelude.{◌==◌, IsTrue}
use Rattle.std.proofs.lemmas.Bool.{ne_eqb}
use Rattle.rel_path.specs.Paths.{is_component}
use Rattle.sample_repository.specs.Repository.{digit, name}

no_slash : (k : ℕ) → (digit k == 47) ≡ false
no_slash k = ne_eqb (digit k) 47 (λ e. omega (arith, e))

pub component : (k : ℕ) → IsTrue (is_component (name k))
component k = rw (no_slash (k / 1000), no_slash (k / 100), no_slash (k / 10), no_slash k) refl
