mod Any
