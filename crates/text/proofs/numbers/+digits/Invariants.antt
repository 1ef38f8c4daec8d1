-- The measure of `text::numbers::digits`: a tenth is smaller. Assumes nothing.
use Rattle.text.proofs.numbers.+digits.Given as goal

abbrev pub decreases-digits : goal.decreases-digits
decreases-digits l = l.n
