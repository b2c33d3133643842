use Rattle.laws.proofs.Asked.{asked}
use Rattle.read_layers.proofs.Laws.{fore_wrong, layers_read, layers_laws}
use Rattle.read_layers.proofs.read_layers.Goals as goal

pub overflow_add-at : goal.overflow_add-at
overflow_add-at c = search layers_laws

pub layer_at-requires : goal.layer_at-requires
layer_at-requires c = search layers_laws

pub returns-then-not-fits : goal.returns-then-not-fits
returns-then-not-fits c = search layers_laws

pub returns-in_err-back : goal.returns-in_err-back
returns-in_err-back c = search layers_laws

pub layer_at-requires-2 : goal.layer_at-requires-2
layer_at-requires-2 c = search layers_laws

pub returns-in_err-fore : goal.returns-in_err-fore
returns-in_err-fore c = asked _ c.from_residual-in_err-fore.ensures
    (fore_wrong c.args.s.now c.args.main c.args.t c.args.mask c.args.at c.fits.ensures c.if-not-fits.false c.has_back.ensures c.layer_at.ensures c.in_ok-back.was
    c.has_fore.ensures c.layer_at-2.ensures c.in_err-fore.was)

pub returns : goal.returns
returns c = layers_read c.args.s.now c.args.main c.args.t c.args.mask c.args.at c.fits.ensures c.if-not-fits.false c.has_back.ensures c.layer_at.ensures c.in_ok-back.was
    c.has_fore.ensures c.layer_at-2.ensures c.in_ok-fore.was
