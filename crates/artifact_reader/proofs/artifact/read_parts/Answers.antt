use Rattle.std.proofs.Common.{rules, Err, List, subst}
use Rattle.artifact_reader.specs.declared.part.Part.{Part}
use Rattle.artifact_reader.specs.declared.stop.Stop.{Stop}
use Rattle.artifact_reader.specs.declared.stop.Stop.TheVariants.{NoArtifact}
use Rattle.artifact_reader.specs.Cursors.{left_in}
use Rattle.artifact_reader.specs.Artifacts.{IsHitIn, IsHitOf}
use Rattle.artifact_reader.proofs.Ascents.{is_artifact, is_none, none_there}
use Rattle.artifact_reader.proofs.artifact.read_parts.Goals as goal

pub returns-then-ascends-clause-read : goal.returns-then-ascends-clause-read
returns-then-ascends-clause-read c =
    let hit = subst (λ (parts : List Part). IsHitIn parts c.in-Ok.hit) c.new.ensures c.in-Ok.ensures in
    λ low text on. is_artifact _ text c.in-Ok.hit (hit.is low text on) (search rules)

pub returns-then-ascends-clause-lies : goal.returns-then-ascends-clause-lies
returns-then-ascends-clause-lies c =
    let hit = subst (λ (parts : List Part). IsHitIn parts c.in-Ok.hit) c.new.ensures c.in-Ok.ensures in
    λ low text on. let here = hit.lies low text on in record { log = here.log; files = here.files }

pub returns-else-ascends-clause-read : goal.returns-else-ascends-clause-read
returns-else-ascends-clause-read c =
    let hit = subst (λ (parts : List Part). IsHitIn parts c.in-Ok.hit) c.new.ensures c.in-Ok.ensures in
    λ low text on. is_none _ text c.in-Ok.hit (hit.is low text on) (search rules)

pub returns-in-Err-NoArtifact-clause-read : goal.returns-in-Err-NoArtifact-clause-read
returns-in-Err-NoArtifact-clause-read c =
    let stop = subst (λ (e : Stop). IsHitOf (left_in c.new.result) (Err e)) c.in-Err-NoArtifact.field-0-is c.in-Err-NoArtifact.ensures in
    λ low text on. none_there _ (subst (λ (parts : List Part). IsHitOf parts (Err NoArtifact)) c.new.ensures stop low text on)
