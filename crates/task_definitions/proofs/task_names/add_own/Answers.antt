use Rattle.std.proofs.Common.{◌≡◌, ℕ, List, refl, rules}
use Rattle.std.specs.Map.{keys_of, values_of}
use Rattle.turbo_config.specs.declared.files.PackageConfig.{PackageConfig}
use Rattle.task_definitions.specs.Setup.{is_among}
use Rattle.task_definitions.proofs.Gains.{any_map}
use Rattle.task_definitions.proofs.task_names.add_own.Goals as goal

pub loop-file-init : goal.loop-file-init
loop-file-init c = λ name.
    let all : c.into_iter-file-iterator.result ≡ values_of c.args.packages.now.entries = search rules in
    rw (all, any_map (λ (file : PackageConfig). is_among (keys_of file.tasks) name) (λ (p : List ℕ × PackageConfig). p.1) c.args.packages.now.entries) refl
