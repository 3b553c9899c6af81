-- So many names are left as turns are to come, and those to be kept.
use Rattle.std.proofs.Common.{◌≡◌, ◌-◌, ◌<◌, ◌≤◌, take, length}
use Rattle.wm_scope.proofs.names.Names.keep.Given as goal

abbrev pub invariant-loop : goal.invariant-loop
invariant-loop l = record {
  left : l.self ≡ take (l.end - (l.counter - l.count)) l.fn.self;
  all : l.end ≡ length l.fn.self;
  same : l.count ≡ l.fn.count;
  begun : l.count ≤ l.counter;
  short : l.end < l.count → l.counter ≡ l.count;
}
