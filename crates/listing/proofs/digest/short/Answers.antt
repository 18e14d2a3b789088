use Rattle.std.proofs.Common.{◌∙◌, arith}
use Rattle.hex.specs.Hex.{lower_digits}
use Rattle.listing.specs.Fingerprint.{printed}
use Rattle.listing.proofs.Writing.{encode-front}
use Rattle.listing.proofs.digest.short.Goals as goal

pub returns-clause-digits : goal.returns-clause-digits
unfolding printed
returns-clause-digits c = c.from_string.ensures ∙ c.in_ok-digits.ensures ∙ encode-front lower_digits c.args.print.now (omega arith)
