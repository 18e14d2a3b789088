use Rattle.std.proofs.Common.{◌≡◌, ◌∙◌, List, ℕ, ap, subst, arith, append_assoc}
use Rattle.std.proofs.lemmas.Grind.{common_steps}
use Rattle.codes.specs.Codes.{IsShort, Each, list}
use Rattle.cache_api.specs.Artifacts.{File, FileFits, artifact, artifact_text, ArtifactFits}
use Rattle.cache_api.specs.Reading.{artifact_in}
use Rattle.cache_api.proofs.Text.{text_back, each_fits}
use Rattle.cache_api.proofs.artifact.Artifact.text.Goals as goal

pub returns-clause-back : goal.returns-clause-back
unfolding artifact_text list
returns-clause-back c up =
    let a = c.args.self.now in
    let files : c.as_slice-files.result.now ≡ a.files = c.as_slice-files.ensures in
    let log : c.as_slice.result.now ≡ a.log = c.as_slice.ensures in
    let each = each_fits a.files (subst (λ (fs : List File). Each FileFits fs) files c.in_ok-put_files.ensures.fits) in
    let fits : ArtifactFits (artifact a) = record {
      log = subst (λ (l : List ℕ). IsShort l) log c.in_ok-put_str.ensures.short;
      files = record { short = subst (λ (fs : List File). IsShort fs) files c.in_ok-put_len.ensures.short; each = each.0 };
      texts = each.1;
      ascend = up;
    } in
    let written : c.from_vec.result ≡ artifact_text (artifact a) = grind (arith, common_steps, append_assoc) in
    ap artifact_in written ∙ text_back (artifact a) fits
