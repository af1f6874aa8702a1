-- `places::place_of_twelve` meets its contract.
use Rattle.numerals.proofs.places.place_of_twelve.Goals as goal

pub returns : goal.returns
returns c = c.all_places-all.ensures.at c.args.value c.requires
