-- What a search that is kept from question to question has proved, and what it replies to a cube of assumed literals.
use Rattle.std.specs.Prelude.{◌≡◌, List, [], ◌∷◌, ◌++◌, map, All}
use Rattle.stn_core.specs.declared.literal.Literal.{Literal}
use Rattle.stn_core.specs.declared.problem.Problem.{Problem}
use Rattle.stn_core.specs.Literal.{Holds}
use Rattle.stn_core.specs.Solution.{IsSolution}
use Rattle.refute_tree.specs.declared.lemma.Lemma.{Lemma}
use Rattle.refute_tree.specs.Trees.{stated}
use Rattle.refute_tree.specs.Batches.{AreRefuted, LemmaIsOver}
use Rattle.book_core.specs.Books.{IsShutBy}
use Rattle.kept_search.specs.Searches.{Searched}
use Rattle.kept_search.specs.declared.reply.Reply.{Reply}
use Rattle.kept_search.specs.declared.reply.Reply.TheVariants as reply

-- each lemma is refuted over the problem and those before it, whatever was assumed, and its literals are within the limits
pub record IsSearchOf (problem : Problem) (s : Searched) : Type 0 where
  pub points : s.points ≡ problem.points
  pub refuted : AreRefuted problem.points problem.clauses [] s.lemmas
  pub over : All (LemmaIsOver problem.points) s.lemmas

-- a schedule of the problem on which the cube's literals hold, or a lemma whose literals are all denied by the cube's
abbrev pub IsReply : Problem → List Lemma → List Literal → Reply → Type 0
IsReply problem lemmas cube (reply.Holds values) = IsSolution problem values × All (Holds values) cube
IsReply problem lemmas cube (reply.Denied j) = IsShutBy (map stated lemmas) cube j
IsReply problem lemmas cube reply.Open = Unit {0}

-- behind the question
pub record IsNext (problem : Problem) (cube : List Literal) (new : Searched) (r : Reply) : Type 0 where
  pub of : IsSearchOf problem new
  pub right : IsReply problem new.lemmas cube r

-- the problem's clauses, and one more behind them
pub record HasClauseMore (problem asked : Problem) (clause : List Literal) : Type 0 where
  pub points : asked.points ≡ problem.points
  pub clauses : asked.clauses ≡ problem.clauses ++ clause ∷ []
