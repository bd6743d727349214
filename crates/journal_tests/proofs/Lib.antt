mod Series
