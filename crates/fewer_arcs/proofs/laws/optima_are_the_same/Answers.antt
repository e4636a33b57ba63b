use Rattle.fewer_arcs.proofs.Best.{best_pits, best_schedules, best_shares}
use Rattle.fewer_arcs.proofs.laws.optima_are_the_same.Goals as goal

pub returns-clause-upit : goal.returns-clause-upit
returns-clause-upit c = λ lists n value pit later. best_pits lists later n value pit

pub returns-clause-cpit : goal.returns-clause-cpit
returns-clause-cpit c = λ lists is_within n weight value period_of later. best_schedules lists later is_within n weight value period_of

pub returns-clause-pcpsp : goal.returns-clause-pcpsp
returns-clause-pcpsp c = λ lists are_within model shares later. best_shares lists later are_within model shares
