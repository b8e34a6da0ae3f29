-- Each method is made of its own moves.
use Rattle.planner.proofs.searched.Goals as goal

pub returns-in-Bt : goal.returns-in-Bt
returns-in-Bt c = rw c.in-Bt.is c.search.ensures

pub returns-in-Cbj : goal.returns-in-Cbj
returns-in-Cbj c = rw c.in-Cbj.is c.search-in-Cbj.ensures

pub returns-in-Bm : goal.returns-in-Bm
returns-in-Bm c = rw c.in-Bm.is c.search-in-Bm.ensures

pub returns-in-Fc : goal.returns-in-Fc
returns-in-Fc c = rw c.in-Fc.is c.search-in-Fc.ensures

pub returns-in-FcCbj : goal.returns-in-FcCbj
returns-in-FcCbj c = rw c.in-FcCbj.is c.search-in-FcCbj.ensures
