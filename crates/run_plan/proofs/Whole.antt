-- All laws of stories.
use Rattle.std.proofs.Common.{[], sym, ◌∙◌, append-nil, refl, false, None, arith}
use Rattle.run_laws.specs.Ancestors.{part_at, has_script}
use Rattle.run_plan.specs.StoryLaws.{StoryLaw}
use Rattle.spawn_dev.specs.Effects.{no_effect}
use Rattle.std.proofs.lemmas.Bool.{and_right}
use Rattle.run_plan.specs.Pages.{report_of}
use Rattle.run_plan.specs.Openings.{setting_of}
use Rattle.page.specs.declared.blocks.Note.TheVariants.{Stored}
use Rattle.run_plan.proofs.Grounds.{Laws}
use Rattle.run_plan.proofs.Standing.{silent}
use Rattle.std.proofs.lemmas.Bool.{true≢false}
use Rattle.run_plan.proofs.Arms.{arm-pass, arm-miss, arm-hit, arm-start}
use Rattle.run_plan.proofs.Ending.{arm-end}
use Rattle.run_plan.proofs.Closing.{has-less, settles, is-shown, is-hidden, goes-on, summary-told, blocks-kept, is-over}

pub story-law : Laws → StoryLaw
story-law laws = record {
  first = λ plan o will room logs. record {
    book = refl;
    mine = [];
    steps = sym (append-nil o.steps);
    at = laws.core.first _;
    moves = [];
    will = λ t. no_effect;
    leads = refl;
    will_is = λ t h. absurd (cc);
    puts = refl;
    lasts = omega arith;
    within = omega arith;
    reports = λ t. silent (report_of plan (setting_of plan o) Stored t) _ None (and_right (has_script (part_at plan.listing t)) false refl) refl;
    noted = λ t. refl;
    logs = λ t h less. absurd (true≢false (sym h ∙ and_right (has_script (part_at plan.listing t)) false refl));
  };
  less = λ plan o now room stands le. has-less laws plan o now stands room le;
  pass = λ plan o now t stands is bare. arm-pass laws plan o now stands t is bare;
  miss = λ plan o now t room stands is script le why. arm-miss laws plan o now stands t is script room le why;
  hit = λ plan o now t room artifact stands is script le looks found. arm-hit laws plan o now stands t is script room artifact le looks found;
  start = λ plan o now t will stands calm is here others. arm-start laws plan o now stands t is will calm here others;
  end = λ plan o now end sound note will pairs lasting room report stands calm is e others. arm-end laws plan o now stands end sound e.ends calm is note pairs lasting room report e will others;
  settles = λ plan o now lasting stands more within. settles laws plan o now stands lasting more within;
  over = λ plan o now stands is. is-over laws plan o now stands is;
  show = λ plan o now report stands e. is-shown laws plan o now stands report e;
  hide = λ plan o now stands e. is-hidden laws plan o now stands e;
  shown = λ plan o now logs stands same. goes-on laws plan o now stands logs same;
  summary = λ plan o now stands. summary-told laws plan o now stands;
  kept = blocks-kept;
}
