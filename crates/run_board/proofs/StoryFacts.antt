-- A story by other names.
use Rattle.std.proofs.Common.{◌≡◌, subst}
use Rattle.run_plan.specs.declared.plan.Plan.{Plan}
use Rattle.run_plan.specs.Openings.{Opening}
use Rattle.run_plan.specs.Stories.{Now, Story}
use Rattle.run_plan.specs.StoryLaws.{Stands}

-- a story with equal parts
pub become : (plan : Plan) (o : Opening) (before x y : Now) → Stands plan o before
    → x.states ≡ y.states → x.book ≡ y.book → x.steps ≡ y.steps → x.will ≡ y.will
    → x.files ≡ y.files → x.pairs ≡ y.pairs → x.lasting ≡ y.lasting → x.room ≡ y.room
    → x.reports ≡ y.reports → x.logs ≡ y.logs → x.shown ≡ y.shown → Story plan o x
    → Stands plan o y
become plan o before x y stands st book steps will files pairs lasting room reports logs shown
    story =
    record {
      valid = stands.valid;
      ready = stands.ready;
      story = subst (Story plan o) (λ j. record {
        states = st j;
        book = book j;
        steps = steps j;
        will = will j;
        files = files j;
        pairs = pairs j;
        lasting = lasting j;
        room = room j;
        reports = reports j;
        logs = logs j;
        shown = shown j;
      }) story;
    }
