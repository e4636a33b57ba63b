-- No retained arc can be dropped if the lists are closed.
use Rattle.std.proofs.Common.{ℕ, zero, suc, List}
use Rattle.precedence.specs.Closed.{AreClosed, HasArc, HasPath}
use Rattle.fewer_arcs.specs.Reduced.{reduced}
use Rattle.fewer_arcs.specs.Implied.{AreAmong, HavePaths}
use Rattle.fewer_arcs.proofs.Same.{among, apart}

-- a path along some arcs is a path along all
path_among : (lists some : List (List ℕ)) → AreAmong some lists → (n b c : ℕ) → HasPath some n b c → HasPath lists n b c
path_among lists some are zero b c arc = are b c arc
path_among lists some are (suc n) b c path = (path.0, are b path.0 path.1, path_among lists some are n path.0 c path.2)

pub needed : (lists other : List (List ℕ)) → AreClosed lists → AreAmong other lists → HavePaths lists other → AreAmong (reduced lists) other
needed lists other closed are paths b c has = let path = paths b c all in by path.0 path.1
  where
    all : HasArc lists b c
    all = among lists b c has

    by : (n : ℕ) → HasPath other n b c → HasArc other b c
    by zero arc = arc
    by (suc n) path =
        let own = are b path.0 path.1 in
        absurd (apart lists b c path.0 has own (closed b c path.0 n all own (path_among lists other are n path.0 c path.2)))
