mod Clauses
