use Rattle.std.proofs.Common.{refl, arith}
use Rattle.sha_lanes.proofs.Four.{first_of, four_by_four, second_of}
use Rattle.sha_lanes.proofs.load.transposed.Goals as goal

pub returns : goal.returns
returns c = four_by_four _
    (first_of c.args.a c.args.c c.fits-a.0 0 (omega arith)) (first_of c.args.a c.args.c c.fits-a.0 1 (omega arith))
    (first_of c.args.a c.args.c c.fits-a.0 2 (omega arith)) (first_of c.args.a c.args.c c.fits-a.0 3 (omega arith))
    (first_of c.args.b c.args.d c.fits-b.0 0 (omega arith)) (first_of c.args.b c.args.d c.fits-b.0 1 (omega arith))
    (first_of c.args.b c.args.d c.fits-b.0 2 (omega arith)) (first_of c.args.b c.args.d c.fits-b.0 3 (omega arith))
    (second_of c.args.a c.args.c c.fits-a.0 4 0 refl) (second_of c.args.a c.args.c c.fits-a.0 5 1 refl)
    (second_of c.args.a c.args.c c.fits-a.0 6 2 refl) (second_of c.args.a c.args.c c.fits-a.0 7 3 refl)
    (second_of c.args.b c.args.d c.fits-b.0 4 0 refl) (second_of c.args.b c.args.d c.fits-b.0 5 1 refl)
    (second_of c.args.b c.args.d c.fits-b.0 6 2 refl) (second_of c.args.b c.args.d c.fits-b.0 7 3 refl)
